-- `store_flags::Flags::lower` meets its contract. Assumes nothing.
use Prim.Native.Nat.{ℕ, ◌+◌, ◌-◌, ◌/◌, ◌%◌}
use mathlib.Core.Path.{◌≡◌, ap, ◌∙◌}
use mathlib.Core.List.{List}
use native.Mathlib.Omega.{arith}
use lib.ListN.{get_or, set}
use Rattle.store_flags.specs.Flags.{in_word, flags_of, any_set}
use Rattle.store_flags.proofs.Back.{words_put}
use Rattle.store_flags.proofs.Words.{words_flag, word_bounds, group_bounds, mark_at, any_some, marks_kept, in_word_kept, in_group_kept, flags_put, counted_put, flag_list}
use Rattle.store_flags.proofs.Flags.lower.Goals as goal

-- so it is in the words too
was : (ws l : List ℕ) (i v : ℕ) → flags_of ws ≡ l → get_or l i 0 ≡ v → get_or (flags_of ws) i 0 ≡ v
was ws l i v e h = rw e h

pub lowered-word-requires : goal.lowered-word-requires
lowered-word-requires c = (omega arith, words_flag c.self.invariant.0.summed c.args.i c.requires.0 ∙ was c.self.inside.words c.args.self.now c.args.i 1 c.self.view_is c.requires.1)

pub unmark-requires : goal.unmark-requires
unmark-requires c =
    let i = c.args.i in
    let f = c.self.inside.words in
    let on = words_flag c.self.invariant.0.summed i c.requires.0 ∙ was c.self.inside.words c.args.self.now c.args.i 1 c.self.view_is c.requires.1 in
    let marks = ap (λ (x : ℕ). get_or (in_word x) (i / 64) 0) (marks_kept f i c.lowered-word.result c.requires.0) in
    (omega arith, marks ∙ mark_at c.self.invariant.0.summed (i / 64) (omega (arith, c.requires.0)) ∙ any_some (get_or f (i / 64) 0) (i % 64) on)

pub overflow_sub-self : goal.overflow_sub-self
overflow_sub-self c =
    let i = c.args.i in
    omega (arith, was c.self.inside.words c.args.self.now c.args.i 1 c.self.view_is c.requires.1, word_bounds c.self.invariant.0 i c.requires.0, in_word_kept c.self.inside.words i c.lowered-word.result c.unmark.result c.requires.0)

pub overflow_sub-self-2 : goal.overflow_sub-self-2
overflow_sub-self-2 c =
    let at-lowered = c.lowered-word in
    let i = c.args.i in
    omega (arith, was c.self.inside.words c.args.self.now c.args.i 1 c.self.view_is c.requires.1, group_bounds c.self.invariant.0 i c.requires.0, in_group_kept c.self.inside.words i at-lowered.result c.unmark.result (get_or (set (set c.self.inside.words (i / 64) at-lowered.result) 32 c.unmark.result) (33 + i / 64) 0 - 1) c.requires.0)

pub invariant_of-self : goal.invariant_of-self
invariant_of-self c =
    let i = c.args.i in
    let f = c.self.inside.words in
    let w = c.lowered-word in
    let m = c.unmark in
    let marked = m.ensures ∙ ap (λ (x : ℕ). set (in_word x) (i / 64) (any_set w.result)) (marks_kept f i w.result c.requires.0) in
    let n = word_bounds c.self.invariant.0 i c.requires.0 in
    let n' = in_word_kept f i w.result m.result c.requires.0 in
    let g = group_bounds c.self.invariant.0 i c.requires.0 in
    let g' = in_group_kept f i w.result m.result (get_or (set (set f (i / 64) w.result) 32 m.result) (33 + i / 64) 0 - 1) c.requires.0 in
    let kept = counted_put c.self.invariant.0 i 0 w.result m.result _ _ c.requires.0 (omega arith) w.ensures marked (omega (arith, was c.self.inside.words c.args.self.now c.args.i 1 c.self.view_is c.requires.1, n, n')) (omega (arith, was c.self.inside.words c.args.self.now c.args.i 1 c.self.view_is c.requires.1, g, g')) in
    (kept, words_put c.self.invariant.0 c.self.invariant.1 i w.result m.result _ _ c.requires.0 w.type_inv m.type_inv kept)

pub returns : goal.returns
returns c =
    let i = c.args.i in
    let f = c.self.inside.words in
    let w = c.lowered-word in
    let m = c.unmark in
    let marked = m.ensures ∙ ap (λ (x : ℕ). set (in_word x) (i / 64) (any_set w.result)) (marks_kept f i w.result c.requires.0) in
    let n = word_bounds c.self.invariant.0 i c.requires.0 in
    let n' = in_word_kept f i w.result m.result c.requires.0 in
    let g = group_bounds c.self.invariant.0 i c.requires.0 in
    let g' = in_group_kept f i w.result m.result (get_or (set (set f (i / 64) w.result) 32 m.result) (33 + i / 64) 0 - 1) c.requires.0 in
    let kept = counted_put c.self.invariant.0 i 0 w.result m.result _ _ c.requires.0 (omega arith) w.ensures marked (omega (arith, was c.self.inside.words c.args.self.now c.args.i 1 c.self.view_is c.requires.1, n, n')) (omega (arith, was c.self.inside.words c.args.self.now c.args.i 1 c.self.view_is c.requires.1, g, g')) in
    record {
      flags_after = flags_put c.self.invariant.0 i 0 w.result m.result _ _ c.requires.0 (omega arith) w.ensures marked (omega (arith, was c.self.inside.words c.args.self.now c.args.i 1 c.self.view_is c.requires.1, n, n')) (omega (arith, was c.self.inside.words c.args.self.now c.args.i 1 c.self.view_is c.requires.1, g, g')) ∙ ap (λ (l : List ℕ). set l i 0) c.self.view_is;
      list = flag_list kept;
    }
