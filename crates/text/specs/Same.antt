-- Equal answers in 01's numbers, equal listings and equal cells print equal bytes: 01, "the printed lines are made of answer, listing and cells alone" ("Any two
-- orders"). The statement; it is proved in proofs/Laws. Assumes nothing.
use Rattle.std.specs.Prelude.{ℕ, ◌≡◌, List}
use Rattle.rules.specs.Answer.{values_of}
use Rattle.rules.specs.declared.answer.Answer.{Answer}
use Rattle.text.specs.Text.{printed}

abbrev pub SameText : Type 0
SameText = (a b : Answer) (listing listing' cells cells' : List ℕ) → values_of a ≡ values_of b → listing ≡ listing' → cells ≡ cells'
    → printed a listing cells ≡ printed b listing' cells'
