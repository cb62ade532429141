use Rattle.ocra_tool.proofs.laws.files_can_be_decided.Goals as goal

pub returns : goal.returns
returns c = λ width bytes spec is. record {
  reads = c.files_read_free_ports.ensures bytes is.tree.tokens is.components spec is.tree.short is.tree.cut is.tree.text is.of.faultless is.of.stands;
  types = c.files_have_codable_types.ensures bytes is.tree.tokens is.components spec is.tree.short is.tree.cut is.tree.text is.of.faultless is.of.stands;
}
