-- The fields of a token's line, put one after another: the room that is left once each is put (`after_path` and so on), and the line once all are (`rest_put`).
-- Assumes nothing.
use Prim.Native.Nat.{ℕ}
use mathlib.Core.List.{List, [], ◌∷◌, ◌++◌}
use Rattle.record.specs.declared.token.Token.{Token}
use Rattle.record.specs.Paths.{path_number}
use Rattle.record.specs.TokensAndTags.{value_in}
use Rattle.text.specs.Text.{decimal, signed_decimal, state_word, line}
use Rattle.text.specs.Lines.{RoomForText, AddedText}
use Rattle.text.proofs.Lines.{rest_room, with_rest}

-- the fields from each on
abbrev pub word : Token → List (List ℕ)
word t = state_word t.content ∷ []

abbrev pub value : Token → List (List ℕ)
value t = signed_decimal (value_in t.content) ∷ word t

abbrev pub port : Token → List (List ℕ)
port t = decimal t.port ∷ value t

abbrev pub instruction : Token → List (List ℕ)
instruction t = decimal t.tag.instruction ∷ port t

abbrev pub iteration : Token → List (List ℕ)
iteration t = decimal t.tag.iteration ∷ instruction t

abbrev pub path : Token → List (List ℕ)
path t = decimal (path_number t.tag.path) ∷ iteration t

module _ (t : Token) {l m : List ℕ} {at i : ℕ} where
  pub after_path : RoomForText l at (line (path t)) → AddedText l m at i (decimal (path_number t.tag.path) ++ 32 ∷ []) → RoomForText m i (line (iteration t))
  after_path room a = rest_room (decimal t.tag.iteration) (instruction t) (decimal (path_number t.tag.path)) a room

  module _ (room : RoomForText l at (line (iteration t))) (a : AddedText l m at i (decimal t.tag.iteration ++ 32 ∷ [])) where
    pub after_iteration : RoomForText m i (line (instruction t))
    after_iteration = rest_room (decimal t.tag.instruction) (port t) (decimal t.tag.iteration) a room

    module _ {n : List ℕ} {j : ℕ} (b : AddedText m n i j (decimal t.tag.instruction ++ 32 ∷ [])) where
      pub after_instruction : RoomForText n j (line (port t))
      after_instruction = rest_room (decimal t.port) (value t) (decimal t.tag.instruction) b after_iteration

      module _ {o : List ℕ} {k : ℕ} (d : AddedText n o j k (decimal t.port ++ 32 ∷ [])) where
        pub after_port : RoomForText o k (line (value t))
        after_port = rest_room (signed_decimal (value_in t.content)) (word t) (decimal t.port) d after_instruction

        pub after_value : {p : List ℕ} {q : ℕ} → AddedText o p k q (signed_decimal (value_in t.content) ++ 32 ∷ []) → RoomForText p q (line (word t))
        after_value e = rest_room (state_word t.content) [] (signed_decimal (value_in t.content)) e after_port

  -- all fields from the iteration on
  pub rest_put : {n o p q : List ℕ} {j k u r : ℕ} → AddedText l m at i (decimal t.tag.iteration ++ 32 ∷ []) → AddedText m n i j (decimal t.tag.instruction ++ 32 ∷ [])
      → AddedText n o j k (decimal t.port ++ 32 ∷ []) → AddedText o p k u (signed_decimal (value_in t.content) ++ 32 ∷ []) → AddedText p q u r (line (word t))
      → AddedText l q at r (line (iteration t))
  rest_put a b d e f =
      let v = with_rest (state_word t.content) [] (signed_decimal (value_in t.content)) e f in
      let p = with_rest (signed_decimal (value_in t.content)) (word t) (decimal t.port) d v in
      with_rest (decimal t.tag.instruction) (port t) (decimal t.tag.iteration) a (with_rest (decimal t.port) (value t) (decimal t.tag.instruction) b p)
