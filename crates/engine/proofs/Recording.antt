-- The log of a run: each record goes behind those before it, while there is room. Assumes nothing.
use Prim.Native.Nat.{ℕ, ◌+◌, ◌*◌, ◌/◌, ◌≤◌, ◌<◌}
use mathlib.Core.Path.{◌≡◌, refl, sym, ap, ◌∙◌}
use mathlib.Core.Bool.{Bool, true, false, cond}
use mathlib.Core.List.{List, [], ◌∷◌, ◌++◌}
use native.Mathlib.Omega.{arith}
use lib.Dec.{ltb}
use lib.ListN.{length, take, drop, length-append, length-take, length-drop}
use lib.Seq.{take_all, take-append-le, drop-drop}
use borrow.Author.Tests.{ltb-true, ltb-false}
use Rattle.buffer.specs.Rows.{put_row, joined, written_over}
use Rattle.buffer.proofs.Tables.{length_joined, put_end}
use Rattle.record.specs.declared.tag.Tag.{Tag}
use Rattle.record.specs.Logs.{encode_activity}
use Rattle.record.specs.Widths.{log_width}
use Rattle.record.proofs.LogRecords.{length_record}
use Rattle.engine.specs.Turns.{log_noted, recorded}

records_bytes : (τs : List Tag) → length (joined encode_activity τs) ≡ length τs * log_width
records_bytes τs = length_joined log_width encode_activity length_record τs

-- where all have room, they are written over the log
pub recorded_all : (τs : List Tag) (lent : List ℕ) → length τs ≤ length lent / log_width → recorded τs lent ≡ written_over encode_activity τs lent
unfolding recorded
recorded_all τs lent h = ap (λ (l : List Tag). written_over encode_activity l lent) (take_all (length lent / log_width) τs h)

pub recorded_none : (lent : List ℕ) → recorded [] lent ≡ lent
unfolding recorded
recorded_none lent = ap (λ (l : List Tag). written_over encode_activity l lent) (take_all (length lent / log_width) [] (omega arith))

pub length_recorded : (τs : List Tag) (lent : List ℕ) → length (recorded τs lent) ≡ length lent
unfolding recorded
length_recorded τs lent =
    let n = length lent / log_width in
    let x = joined encode_activity (take n τs) in
    omega (arith, length-append x (drop (length x) lent), length-drop (length x) lent, records_bytes (take n τs), length-take n τs)

-- one for which there is none
recorded_full : (τs : List Tag) (lent : List ℕ) (τ : Tag) → length lent / log_width ≤ length τs → recorded τs lent ≡ recorded (τs ++ τ ∷ []) lent
unfolding recorded
recorded_full τs lent τ h = ap (λ (l : List Tag). written_over encode_activity l lent) (sym (take-append-le (length lent / log_width) τs (τ ∷ []) h))

-- one more
pub noted_next : (τs : List Tag) (lent : List ℕ) (τ : Tag) → log_noted (recorded τs lent) (length τs) τ ≡ recorded (τs ++ τ ∷ []) lent
unfolding log_noted
noted_next τs lent τ = rw (length_recorded τs lent) (go (ltb (length τs) n) refl)
  where
    n : ℕ
    n = length lent / log_width

    more : length (τs ++ τ ∷ []) ≡ length τs + 1
    more = length-append τs (τ ∷ [])

    written : length τs < n → put_row log_width (recorded τs lent) (length τs) (encode_activity τ) ≡ recorded (τs ++ τ ∷ []) lent
    written h =
        let at : length (joined encode_activity τs) + log_width ≡ length (joined encode_activity (τs ++ τ ∷ [])) = omega (arith, records_bytes τs, records_bytes (τs ++ τ ∷ []), more) in
        ap (λ (l : List ℕ). put_row log_width l (length τs) (encode_activity τ)) (recorded_all τs lent (omega arith))
        ∙ put_end log_width encode_activity length_record τs (drop (length (joined encode_activity τs)) lent) τ
        ∙ ap (λ (l : List ℕ). joined encode_activity (τs ++ τ ∷ []) ++ l) (drop-drop log_width (length (joined encode_activity τs)) lent ∙ ap (λ (k : ℕ). drop k lent) at)
        ∙ sym (recorded_all (τs ++ τ ∷ []) lent (omega (arith, more)))

    go : (b : Bool) → ltb (length τs) n ≡ b → cond b (put_row log_width (recorded τs lent) (length τs) (encode_activity τ)) (recorded τs lent) ≡ recorded (τs ++ τ ∷ []) lent
    go true e = written (ltb-true (length τs) n e)
    go false e = recorded_full τs lent τ (ltb-false (length τs) n e)
