-- The derived equality of paths and of tags, field by field, is `same_path` and `same_tag`. Assumes nothing.
use Rattle.std.proofs.Common.{◌≡◌, refl, ◌&&◌}
use Rattle.std.specs.Prelude.{◌==◌}
use Rattle.record.specs.declared.tag.Path.{Path}
use Rattle.record.specs.declared.tag.Tag.{Tag}
use Rattle.record.specs.Paths.{same_path}
use Rattle.record.specs.TokensAndTags.{same_tag}

pub equal_paths : (a b : Path) → (a.low == b.low && a.high == b.high) ≡ same_path a b
unfolding same_path
equal_paths a b = refl

pub equal_tags : (a b : Tag) → ((a.path.low == b.path.low && a.path.high == b.path.high) && (a.iteration == b.iteration && a.instruction == b.instruction)) ≡ same_tag a b
unfolding same_path same_tag
equal_tags a b = refl
