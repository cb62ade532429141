-- What contracts see of the real files and streams: how many calls failed, and nothing of their content.
use Rattle.std.specs.Prelude.{ℕ}
use Rattle.oss_io.specs.declared.real.FileShelf.{FileShelf}
use Rattle.oss_io.specs.declared.real.StdSink.{StdSink}
use Rattle.oss_io.specs.declared.real.ErrSink.{ErrSink}

abbrev pub file_faults : FileShelf → ℕ
file_faults s = s.faults

abbrev pub out_faults : StdSink → ℕ
out_faults s = s.faults

abbrev pub err_faults : ErrSink → ℕ
err_faults s = s.faults
