use mathlib.Core.Path.{refl, ◌∙◌}
use Rattle.merge.specs.Joined.{none_joined, none_joinable}
use borrow.Author.Rules.{rules}
use Rattle.merge.proofs.rebuild_level.Goals as goal

pub fill_level-requires : goal.fill_level-requires
fill_level-requires c =
    let pre = c.requires in
    let w = c.args.store.now in
    let n = none_joined w c.no_run.ensures c.no_run-2.ensures in record {
      lent = pre.lent;
      work_len = pre.work_len;
      le_level = pre.le_level;
      joinable = none_joinable w c.no_run.ensures c.no_run-2.ensures;
      fillable = rw n pre.fillable;
    }

pub returns : goal.returns
returns c =
    let fill-level = c.fill_level in
    let n = none_joined c.args.store.now c.no_run.ensures c.no_run-2.ensures in record {
      words = fill-level.ensures.words ∙ rw n refl;
      pages = fill-level.ensures.pages ∙ rw n refl;
    }
