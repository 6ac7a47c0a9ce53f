-- A text that grew: in the same buffer, by the bytes that were put behind it. Assumes nothing.
use Rattle.std.specs.Prelude.{ℕ, ◌≡◌, refl, List, [], ◌∷◌, ◌++◌, length}
use Rattle.std.proofs.Common.{◌∙◌}
use Rattle.printing.specs.declared.Text.{Text}
use Rattle.printing.specs.Decimal.{decimal}
use Rattle.printing.specs.Printed.{Printed, printed_none, printed_as, printed_then}
use Rattle.printing.specs.Line.{line, named, line_printed, named_printed}

pub record Grown (old : Text) (more : List ℕ) (new : Text) : Type 0 where
  pub printed : Printed old.room.now old.end more new.room.now new.end
  pub same_room : new.room.ghost_name ≡ old.room.ghost_name
  pub kept : length new.room.now ≡ length old.room.now

module _ {t : Text} where
  pub grown_none : Grown t [] t
  grown_none = record { printed = printed_none; same_room = refl; kept = refl }

  -- What was put, told in another way.
  pub grown_as : {xs ys : List ℕ} {u : Text} → xs ≡ ys → Grown t xs u → Grown t ys u
  grown_as e p = record { printed = printed_as e p.printed; same_room = p.same_room; kept = p.kept }

  -- What is put behind what was put is one text with it.
  pub grown_then : {xs ys : List ℕ} {u v : Text} → Grown t xs u → Grown u ys v → Grown t (xs ++ ys) v
  grown_then p q = record { printed = printed_then p.printed q.printed; same_room = q.same_room ∙ p.same_room; kept = q.kept ∙ p.kept }

  pub grown_line : (name : List ℕ) (n : ℕ) {u v x : Text} → Grown t name u → Grown u (decimal n) v → Grown v (10 ∷ []) x → Grown t (line name n) x
  grown_line name n p q r = record {
    printed = line_printed t.room.now t.end name n p.printed q.printed r.printed;
    same_room = r.same_room ∙ q.same_room ∙ p.same_room;
    kept = r.kept ∙ q.kept ∙ p.kept;
  }

  pub grown_named : (name : List ℕ) (n : ℕ) {u v : Text} → Grown t name u → Grown u (decimal n) v → Grown t (named name n) v
  grown_named name n p q = record {
    printed = named_printed t.room.now t.end name n p.printed q.printed;
    same_room = q.same_room ∙ p.same_room;
    kept = q.kept ∙ p.kept;
  }
