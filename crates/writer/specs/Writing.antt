-- A level written into a lent area of whole pages, entry by entry: what is still to come makes the area the whole level. Assumes nothing.
use Rattle.std.specs.Prelude.{ℕ, ◌+◌, ◌-◌, ◌*◌, ◌/◌, ◌≤◌, ◌≡◌, refl, Bool, true, List, [], ◌∷◌, length, set, replicate}
use Rattle.std.proofs.Math.Nat.{sub-zero}
use Rattle.std.proofs.Common.{arith, sym, ap, ◌∙◌}
use Rattle.std.proofs.lemmas.List.Edits.{sets}
use Rattle.geometry.specs.Places.{erased, words_in_page, slots_in_page}
use Rattle.rules.specs.Tree.{Entry, Level}
use Rattle.rules.specs.Store.{level_words}
use Rattle.layout.specs.Stream.{fenced_at, entry_next}
use Rattle.writer.specs.declared.Source.{Source}
use Rattle.writer.specs.declared.Turn.{Turn}
use Rattle.writer.specs.declared.Turn.TheVariants.{Both, Neither}
use Rattle.writer.specs.Source.{SourceAscends, first_below, level_from}
use Rattle.writer.specs.Joining.{Reached, Passed, joined, turn_at, Ready}
use Rattle.writer.specs.Joining.{ready_first, joined_all, upper_past, lower_past, both_go, none_comes}
use Rattle.writer.specs.Append.{slots_put, level_empty, level_length, all_erased}
use Rattle.writer.specs.Coming.{entry_slots, fenced_first, finished, SameFinish, entry_put, finish_least, finish_whole}

-- The pages that an area has room for.
abbrev pub room_in : List ℕ → ℕ
room_in work = length work / words_in_page

-- An area of whole pages, one at least.
pub record WholePages (work : List ℕ) : Type 0 where
  pub whole : length work ≡ words_in_page * room_in work
  pub some : 1 ≤ room_in work
  pub few : room_in work ≤ 4096

-- Room for n slots.
pub record RoomFor (n : ℕ) (work : List ℕ) : Type 0 where
  pub enough : n ≤ slots_in_page * room_in work
  pub few : room_in work ≤ 4096

-- Where there is room for n slots, there is for fewer; and where an internal fence has room, so has the entry behind it.
pub room_less : (m n : ℕ) (work area : List ℕ) → RoomFor n work → m ≤ n → length area ≡ length work → RoomFor m area
room_less m n work area room h kept = record { enough = omega (arith, room.enough, kept); few = omega (arith, room.few, kept) }

pub room_behind : (inner : Bool) (own fence behind : ℕ) (work area : List ℕ) → RoomFor (own + fence + 1) work →
    fenced_at inner (own + fence) ≡ true → behind ≡ own + 1 → length area ≡ length work → RoomFor (behind + fence + 1) area
room_behind inner own fence behind work area room f e kept =
    record { enough = omega (arith, room.enough, fenced_first inner (own + fence) f, kept); few = omega (arith, room.few, kept) }

-- All words erased and the first page's count zero: the level without slots.
pub level_started : (work : List ℕ) → WholePages work → set (sets work 0 (replicate (length work - 0) erased)) 0 0 ≡ level_words [] (room_in work)
level_started work h =
    rw (sub-zero (length work), all_erased work) (ap (λ (n : ℕ). set (replicate n erased) 0 0) h.whole ∙ level_empty (room_in work) h.some)

-- It has the same room.
pub room_started : (work started : List ℕ) → started ≡ level_words [] (room_in work) → room_in started ≡ room_in work
room_started work started e = omega (arith, ap length e, level_length [] (room_in work))

module _ (w : List ℕ) (source : Source) (room : ℕ) where
  -- The whole level in its area, and the number of its slots.
  abbrev whole_level : List ℕ × ℕ
  whole_level = (level_words (level_from w source) room, length (level_from w source))

  -- At two spots, after `own` own slots and `fence` fences: what is still to come makes the area the whole level.
  pub record Going (work : List ℕ) (upper lower own fence : ℕ) : Type 0 where
    pub finishes : finished w source work own fence (joined w source upper lower) ≡ whole_level
    pub ready : Ready w source upper lower
    pub fence_most : fence ≤ source.below
    pub whole : length work ≡ words_in_page * room

  pub going_begins : (work : List ℕ) (upper lower : ℕ) → work ≡ level_words [] room → length (level_from w source) ≤ 21 * room →
      SourceAscends w source → Reached w source.upper 0 upper → Reached w source.lower 0 lower → Going work upper lower 0 0
  going_begins work upper lower e h a above under = record {
    finishes = finish_whole w source work room (joined w source upper lower) e (joined_all w source upper lower above under) h;
    ready = ready_first w source upper lower above under a;
    fence_most = omega arith;
    whole = ap length e ∙ level_length [] room;
  }

  module _ (work : List ℕ) (upper lower own fence : ℕ) (going : Going work upper lower own fence) where
    -- There is room for all fences.
    pub going_room : length (level_from w source) ≤ 21 * room → room ≤ 4096 → RoomFor (own + source.below) work
    going_room h few =
        let least = finish_least w source work own fence (joined w source upper lower) in
        record {
          enough = omega (arith, least, ap (λ (x : List ℕ × ℕ). x.1) going.finishes, going.fence_most, going.whole);
          few = omega (arith, going.whole);
        }

    module _ (t : Turn) (told : t ≡ turn_at w source upper lower) where
      -- Where no entry comes, the fences finish the area.
      pub going_ends : t ≡ Neither → (put : List ℕ) (r : ℕ) → (put, r) ≡ finished w source work own fence [] →
          (put ≡ level_words (level_from w source) room) × (r ≡ length (level_from w source))
      going_ends is put r e =
          let none = ap (finished w source work own fence) (sym (none_comes w source upper lower t told is)) in
          let all : ◌≡◌ {A = List ℕ × ℕ} (put, r) whole_level = e ∙ none ∙ going.finishes in
          (ap (λ (x : List ℕ × ℕ). x.0) all, ap (λ (x : List ℕ × ℕ). x.1) all)

      -- Where two cancel, nothing is put.
      pub going_cancels : t ≡ Both → (u l : ℕ) → Passed w source.upper upper u → Passed w source.lower lower l → Going work u l own fence
      going_cancels is u l high low = record {
        finishes = ap (finished w source work own fence) (both_go w source upper lower t told going.ready is u l high low) ∙ going.finishes;
        ready = lower_past w source u lower (upper_past w source upper lower going.ready u high) l low;
        fence_most = going.fence_most;
        whole = going.whole;
      }

    -- The first entry of both finds room behind all fences, and is put with the fences before it.
    module _ (e : Entry) (u l : ℕ) (first : e ∷ joined w source u l ≡ joined w source upper lower) where
      pub next_room : length (level_from w source) ≤ 21 * room → room ≤ 4096 → RoomFor (own + source.below + 1) work
      next_room h few =
          let least = finish_least w source work own fence (e ∷ joined w source u l) in
          let whole = ap (finished w source work own fence) first ∙ going.finishes in
          record {
            enough = omega (arith, least, ap (λ (x : List ℕ × ℕ). x.1) whole, going.fence_most, going.whole);
            few = omega (arith, going.whole);
          }

      pub next_put : (put : List ℕ) (more later : ℕ) → ((es : Level) → finished w source put more later es ≡ finished w source work own fence (e ∷ es)) →
          Ready w source u l → later ≤ source.below → length put ≡ length work → Going put u l more later
      next_put put more later told ready most kept = record {
        finishes = told (joined w source u l) ∙ ap (finished w source work own fence) first ∙ going.finishes;
        ready = ready;
        fence_most = most;
        whole = kept ∙ going.whole;
      }

    -- The first entry of both: the fences before it are put, and then it is put itself.
    module _ (e : Entry) (u l : ℕ) (first : e ∷ joined w source u l ≡ joined w source upper lower) (fenced : List ℕ) (later : ℕ)
        (told : SameFinish w source e.pair own work fence fenced later) where
      still_finishes : finished w source fenced own later (e ∷ joined w source u l) ≡ whole_level
      still_finishes = told e (joined w source u l) refl ∙ ap (finished w source work own fence) first ∙ going.finishes

      pub entry_room : length (level_from w source) ≤ 21 * room → room ≤ 4096 → length fenced ≡ length work → RoomFor (own + later + 1) fenced
      entry_room h few kept =
          let least = finish_least w source fenced own later (e ∷ joined w source u l) in
          record {
            enough = omega (arith, least, ap (λ (x : List ℕ × ℕ). x.1) still_finishes, going.whole, kept);
            few = omega (arith, going.whole, kept);
          }

      pub going_on : Ready w source u l → later ≤ source.below → entry_next (first_below w source) source.below later e.pair ≡ true →
          (put : List ℕ) (r : ℕ) → (put, r + later) ≡ slots_put fenced (own + later) (entry_slots source.fenced (own + later) later e) →
          length put ≡ length work → Going put u l r later
      going_on ready most next put r q kept = record {
        finishes = entry_put w source fenced own later e (joined w source u l) put r next q ∙ still_finishes;
        ready = ready;
        fence_most = most;
        whole = kept ∙ going.whole;
      }
