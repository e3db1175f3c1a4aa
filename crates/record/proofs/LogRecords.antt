-- A log's record gives its tag back. Assumes nothing.
use Rattle.std.proofs.Common.{◌≡◌, ℕ, ◌^◌, ◌<◌, true, leb, List, [], ◌++◌, length, refl, arith, length-append, le-leb}
use mathlib.Core.Option.{some}
use Rattle.number.proofs.Numbers.{number16_bytes, number64_bytes, fits16, fits64}
use Rattle.record.specs.declared.tag.Tag.{Tag}
use Rattle.record.specs.Paths.{PathFits}
use Rattle.record.specs.Logs.{encode_activity, name_of}
use Rattle.record.specs.Widths.{log_width}

pub record TagFits (τ : Tag) : Type 0 where
  pub path : PathFits τ.path
  pub iteration : τ.iteration < 2 ^ 8
  pub instruction : τ.instruction < 2 ^ 16

pub length_record : (τ : Tag) → length (encode_activity τ) ≡ log_width
unfolding encode_activity
length_record τ = refl

whole_record : (τ : Tag) (rest : List ℕ) → leb log_width (length (encode_activity τ ++ rest)) ≡ true
whole_record τ rest = le-leb log_width (length (encode_activity τ ++ rest)) (omega (arith, length-append (encode_activity τ) rest, length_record τ))

pub name_back : (τ : Tag) (rest : List ℕ) → TagFits τ → name_of (encode_activity τ ++ rest) ≡ some τ
unfolding encode_activity name_of
name_back τ rest f =
    rw (
      whole_record τ rest,
      number64_bytes τ.path.low [],
      fits64 _ f.path.low,
      number64_bytes τ.path.high [],
      fits64 _ f.path.high,
      number16_bytes τ.instruction [],
      fits16 _ f.instruction,
    )
