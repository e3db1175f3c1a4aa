-- 02, R-7, "Firing logs": one record a firing: "path, iteration, a zero byte, instruction"; with R-8 it has 20 bytes. Assumes nothing.
use Rattle.std.specs.Prelude.{ℕ, cond, ◌&&◌, List, Some, None, length, ◌==◌, nat_le}
use Rattle.std.specs.Prelude as Prelude
use Rattle.std.proofs.Math.Option.{Option, none, some}
use Rattle.record.specs.declared.tag.Tag.{Tag}
use Rattle.record.specs.TokensAndTags.{tag_in, port_in, tag_bytes}
use Rattle.record.specs.Widths.{log_width}

-- the zero byte stands where a token record has its port
unfoldable pub encode_activity : Tag → List ℕ
encode_activity τ = tag_bytes τ.path τ.iteration 0 τ.instruction

-- what the record names that l starts with: nothing if it "lacks its zero byte or isn't whole"
unfoldable pub name_of : List ℕ → Option Tag
name_of l = cond (nat_le log_width (length l) && port_in l == 0) (some (tag_in l)) none

-- the same of what the code says: its `Option` is another type than the logic's, which the machine's lists of names hold
abbrev pub tag_named : Prelude.Option Tag → Option Tag
tag_named (Some τ) = some τ
tag_named None = none
