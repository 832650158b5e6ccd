use Rattle.park_format.specs.Format.{header_size, site_start}
use Rattle.park_format.specs.Inner.Stored.{Stored}
use Rattle.park_encode.proofs.Written.{lines_until, sites_until}
use Rattle.park_encode.proofs.write.write_park.Given as goal

-- the first k sites are written, and after the last of them the first i lines
abbrev pub invariant-loop-k : goal.invariant-loop-k
invariant-loop-k l = Stored (sites_until l.list.numbers.now l.k) (header_size l.header.version) l.initial.file l.file

abbrev pub invariant-loop-i : goal.invariant-loop-i
invariant-loop-i l = Stored (lines_until l.list.numbers.now l.i) (site_start l.header.version l.header.sites) l.initial.file l.file
