use Rattle.std.proofs.Common.{◌≡◌, ◌∙◌}
use Rattle.oss_base.proofs.SiteLaws.{first_of-push}
use Rattle.oss_base.proofs.first_site.FirstSite.note.Goals as goal

pub returns-clause-first : goal.returns-clause-first
returns-clause-first c = λ sites is. c.keep.ensures ∙ first_of-push sites c.args.site c.args.self.now is
