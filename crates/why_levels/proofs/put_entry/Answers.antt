-- `put_entry` puts the kind of an entry, and nothing for none. Assumes nothing.
use Rattle.std.proofs.Common.{arith}
use Rattle.printing.specs.Grown.{grown_none, grown_as}
use Rattle.why_levels.specs.Parts.{entry_normal, entry_filter, entry_none}
use Rattle.why_levels.proofs.put_entry.Goals as goal

pub returns-in-1-clause-grown : goal.returns-in-1-clause-grown
returns-in-1-clause-grown c = grown_as (entry_normal c.args.entry c.in-1.is) c.bytes.ensures

pub returns-in-2-clause-grown : goal.returns-in-2-clause-grown
returns-in-2-clause-grown c = grown_as (entry_filter c.args.entry c.in-2.is) c.bytes-in-2.ensures

pub returns-in_default-clause-grown : goal.returns-in_default-clause-grown
returns-in_default-clause-grown c = grown_as (entry_none c.args.entry (omega arith) (omega arith)) grown_none
