-- `list` writes the held pairs of a sound store: its levels ascend. Assumes nothing.
use mathlib.Core.Path.{sym, ap, ◌∙◌}
use Rattle.entries.specs.Ready.{sound_ready}
use Rattle.call_check.specs.List.{listed_reply, list_passes}
use Rattle.call_check.proofs.list.Goals as goal

pub list_pairs-shown-requires : goal.list_pairs-shown-requires
list_pairs-shown-requires c =
    let s = c.in_ok-store.store in
    let ready = sound_ready s.geometry s.words.now (sym c.in_ok-whole_fault.ensures) in record {
      pages_within = ready.0;
      store_value = ready.1;
    }

pub returns : goal.returns
returns c =
    let a = c.args in
    ap listed_reply c.list_pairs-shown.ensures ∙ list_passes a.store.now a.first a.second a.out.now c.in_ok-store.store c.in_ok-store.ensures c.in_ok-whole_fault.ensures
