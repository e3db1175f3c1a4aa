-- 01, "Firing", of tags: NEXT adds 1 to the iteration, ENTER names a call by its path, LEAVE finds the caller in the path. Assumes nothing.
use Rattle.std.specs.Prelude.{◌≡◌, ℕ, ◌+◌, ◌-◌, ◌*◌, ◌/◌, ◌%◌, ◌^◌, ◌<◌, ◌≤◌, cond, List, [], ◌∷◌, Option, Some, None, length, nat_lt}
use Rattle.buffer.specs.Rows.{All}
use Rattle.record.specs.Paths.{path_number, path_words, is_root}
use Rattle.record.specs.declared.tag.Tag.{Tag}
use Rattle.record.specs.declared.tag.Caller.{Caller}

-- ---- "NEXT adds 1 to the iteration, 255 at most."

unfoldable pub next_of : Tag → Option Tag
next_of k = cond (nat_lt k.iteration 255) (Some (record { path = k.path; iteration = k.iteration + 1; instruction = k.instruction })) None

-- ---- "ENTER: the constant is a site, 1 to 255. It sends its value [..] under path × 65,536 + site × 256 + iteration, and iteration 0. [..] Four levels at most."
-- R-8 of 02: "The limit becomes eight."

-- the number of levels, the only place that says eight
abbrev pub most_levels : ℕ
most_levels = 8

abbrev pub entered : Tag → (site : ℕ) → Tag
entered k site = record { path = path_words (path_number k.path * 65536 + site * 256 + k.iteration); iteration = 0; instruction = k.instruction }

-- where there may be `levels` levels; a site is 1 at least, so a path of n levels is at least 65,536 to the n less 1 (proofs/Calls)
unfoldable pub enter_within : (levels : ℕ) → Tag → (site : ℕ) → Option Tag
enter_within levels k site = cond (nat_lt (path_number k.path) (65536 ^ (levels - 1))) (Some (entered k site)) None

abbrev pub enter_of : Tag → (site : ℕ) → Option Tag
enter_of k site = enter_within most_levels k site

-- ---- "LEAVE: the path gives site, iteration and parent back."

unfoldable pub leave_of : Tag → Option Caller
leave_of k =
    let path = path_number k.path in
    cond (is_root k.path) None
    (Some (record { site = path / 256 % 256; tag = record { path = path_words (path / 65536); iteration = path % 256; instruction = k.instruction } }))

-- ---- calls within calls, any number of levels of them

-- a call: its site, and the iteration that it was made in
pub record Call : Type 0 where
  pub site : ℕ
  pub iteration : ℕ

pub record CallFits (c : Call) : Type 0 where
  pub some : 0 < c.site
  pub site : c.site < 256
  pub iteration : c.iteration < 256

-- the path of a list of calls, the newest first
abbrev pub path_of : List Call → ℕ
path_of [] = 0
path_of (c ∷ cs) = path_of cs * 65536 + c.site * 256 + c.iteration

-- ---- what is stated of calls; it is proved in proofs/Calls

pub record CallLaws : Type 0 where
  -- LEAVE inverts ENTER, at any depth: the lower word is one of 64 bits, and the higher one any number
  pub leave_inverts : (k : Tag) (site : ℕ) → k.path.low < 2 ^ 64 → k.iteration < 256 → 0 < site → site < 256 → leave_of (entered k site) ≡ Some (record { site = site; tag = k })
  -- different calls have different paths
  pub different : (cs ds : List Call) → All CallFits cs → All CallFits ds → path_of cs ≡ path_of ds → cs ≡ ds
  -- ENTER adds its call to those of the path, and LEAVE takes the newest away
  pub entered_path : (k : Tag) (site : ℕ) (cs : List Call) → path_number k.path ≡ path_of cs
      → path_number (entered k site).path ≡ path_of (record { site = site; iteration = k.iteration } ∷ cs)
  pub left_path : (k : Tag) (c : Call) (cs : List Call) → CallFits c → path_number k.path ≡ path_of (c ∷ cs)
      → leave_of k ≡ Some (record { site = c.site; tag = record { path = path_words (path_of cs); iteration = c.iteration; instruction = k.instruction } })
  -- ENTER is refused at the most levels, and not before, whatever their number is
  pub enters : (levels : ℕ) (k : Tag) (site : ℕ) (cs : List Call) → All CallFits cs → path_number k.path ≡ path_of cs → length cs < levels
      → enter_within levels k site ≡ Some (entered k site)
  pub too_deep : (levels : ℕ) (k : Tag) (site : ℕ) (cs : List Call) → All CallFits cs → path_number k.path ≡ path_of cs → 0 < levels → levels ≤ length cs
      → enter_within levels k site ≡ None
  -- a path of n levels is a number of n times 16 bits: 128 for the most, the newest four in the lower 64
  pub within : (cs : List Call) → All CallFits cs → path_of cs < 65536 ^ length cs
