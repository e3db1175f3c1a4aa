-- `store_flags::Flags::raise` meets its contract. Assumes nothing.
use Prim.Native.Nat.{ℕ, ◌+◌, ◌/◌, ◌%◌}
use mathlib.Core.Path.{◌≡◌, sym, ap, ◌∙◌}
use mathlib.Core.List.{List}
use native.Mathlib.Omega.{arith}
use lib.ListN.{get_or, set}
use Rattle.store_flags.specs.Flags.{in_word, flags_of}
use Rattle.store_flags.proofs.Back.{words_put}
use Rattle.store_flags.proofs.Words.{words_flag, word_bounds, group_bounds, any_raised, marks_kept, in_word_kept, in_group_kept, flags_put, counted_put, flag_list}
use Rattle.store_flags.proofs.Flags.raise.Goals as goal

-- so it is in the words too
was : (ws l : List ℕ) (i v : ℕ) → flags_of ws ≡ l → get_or l i 0 ≡ v → get_or (flags_of ws) i 0 ≡ v
was ws l i v e h = rw e h

pub raised-requires : goal.raised-requires
raised-requires c = (omega arith, words_flag c.self.invariant.0.summed c.args.i c.requires.0 ∙ was c.self.inside.words c.args.self.now c.args.i 0 c.self.view_is c.requires.1)

pub marked-requires : goal.marked-requires
marked-requires c = omega (arith, c.requires.0)

pub overflow_add-self : goal.overflow_add-self
overflow_add-self c =
    let i = c.args.i in
    record { fits = omega (arith, word_bounds c.self.invariant.0 i c.requires.0, in_word_kept c.self.inside.words i c.raised.result c.marked.result c.requires.0) }

pub overflow_add-self-3 : goal.overflow_add-self-3
overflow_add-self-3 c =
    let at-raised = c.raised in
    let i = c.args.i in
    record { fits = omega (arith, group_bounds c.self.invariant.0 i c.requires.0, in_group_kept c.self.inside.words i at-raised.result c.marked.result (get_or (set (set c.self.inside.words (i / 64) at-raised.result) 32 c.marked.result) (33 + i / 64) 0 + 1) c.requires.0) }

pub invariant_of-self : goal.invariant_of-self
invariant_of-self c =
    let i = c.args.i in
    let f = c.self.inside.words in
    let w = c.raised in
    let m = c.marked in
    let some = any_raised (get_or f (i / 64) 0) w.result (i % 64) (omega arith) w.ensures in
    let marks = marks_kept f i w.result c.requires.0 in
    let marked = m.ensures ∙ ap (λ (x : ℕ). set (in_word x) (i / 64) 1) marks ∙ ap (λ (x : ℕ). set (in_word (get_or f 32 0)) (i / 64) x) (sym some) in
    let x = in_word_kept f i w.result m.result c.requires.0 in
    let y = in_group_kept f i w.result m.result (get_or (set (set f (i / 64) w.result) 32 m.result) (33 + i / 64) 0 + 1) c.requires.0 in
    let kept = counted_put c.self.invariant.0 i 1 w.result m.result _ _ c.requires.0 (omega arith) w.ensures marked (omega (arith, was c.self.inside.words c.args.self.now c.args.i 0 c.self.view_is c.requires.1, x)) (omega (arith, was c.self.inside.words c.args.self.now c.args.i 0 c.self.view_is c.requires.1, y)) in
    (kept, words_put c.self.invariant.0 c.self.invariant.1 i w.result m.result _ _ c.requires.0 w.type_inv m.type_inv kept)

pub returns : goal.returns
returns c =
    let i = c.args.i in
    let f = c.self.inside.words in
    let w = c.raised in
    let m = c.marked in
    let some = any_raised (get_or f (i / 64) 0) w.result (i % 64) (omega arith) w.ensures in
    let marks = marks_kept f i w.result c.requires.0 in
    let marked = m.ensures ∙ ap (λ (x : ℕ). set (in_word x) (i / 64) 1) marks ∙ ap (λ (x : ℕ). set (in_word (get_or f 32 0)) (i / 64) x) (sym some) in
    let x = in_word_kept f i w.result m.result c.requires.0 in
    let y = in_group_kept f i w.result m.result (get_or (set (set f (i / 64) w.result) 32 m.result) (33 + i / 64) 0 + 1) c.requires.0 in
    let kept = counted_put c.self.invariant.0 i 1 w.result m.result _ _ c.requires.0 (omega arith) w.ensures marked (omega (arith, was c.self.inside.words c.args.self.now c.args.i 0 c.self.view_is c.requires.1, x)) (omega (arith, was c.self.inside.words c.args.self.now c.args.i 0 c.self.view_is c.requires.1, y)) in
    record {
      flags_after = flags_put c.self.invariant.0 i 1 w.result m.result _ _ c.requires.0 (omega arith) w.ensures marked (omega (arith, was c.self.inside.words c.args.self.now c.args.i 0 c.self.view_is c.requires.1, x)) (omega (arith, was c.self.inside.words c.args.self.now c.args.i 0 c.self.view_is c.requires.1, y)) ∙ ap (λ (l : List ℕ). set l i 1) c.self.view_is;
      list = flag_list kept;
    }
