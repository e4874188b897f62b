-- The worked examples: eight keys of one byte, of which two bits are kept, entered in order.
use Rattle.std.specs.Prelude.{◌≡◌, ℕ, ◌+◌, List, [], ◌∷◌, length, Some, None}
use Rattle.keys.specs.Bits.{bits}
use Rattle.growth.specs.Growth.{Whole, entered}
use Rattle.nodes.specs.Shapes.{shape_grounds}
use Rattle.nodes.specs.Trees.{Tree}
use Rattle.search.specs.Example.{eight, eight_keys, entry}
use Rattle.search.specs.Seek.{End, Sought, found, gap, gone, sought}
use Rattle.search.specs.TreeLaw.{fetching, view_of}
use Rattle.search.specs.Walk.{rest}
use Rattle.store.specs.Grounds.{first_ground}
use Rattle.store.specs.Meaning.{key_of}
use Rattle.store.specs.declared.refusal.Refusal.TheVariants.{KeyWidth, PartialLength}

-- a lookup in a tree
abbrev pub search_for_key : (l : ℕ) → Tree l → List ℕ → Sought
search_for_key l t key = sought (bits key) (fetching eight_keys key) l t

-- the offset at which a search ended
abbrev pub offset_below : End → ℕ
offset_below (found r) = 0
offset_below (gap None a) = 0
offset_below (gap (Some n) a) = n.offset
offset_below (gone r) = 0

-- the tree with record x entered at its places: the offset is the one that the search finds
abbrev pub with_record : Whole → (x : ℕ) → (places : List ℕ) → Whole
with_record w x ps = entered (view_of 2 eight_keys) w.used x (offset_below (search_for_key w.levels w.tree (key_of eight_keys x)).end) ps w.levels w.tree

-- the reads of that entry: its own key, those of the search, and those of the growth
abbrev pub reads_for : Whole → (x : ℕ) → (places : List ℕ) → ℕ
reads_for w x ps = 1 + (length (search_for_key w.levels w.tree (key_of eight_keys x)).fetched + length (with_record w x ps).fetched)

abbrev pub after_0 : Whole
after_0 = with_record (record { levels = 0; tree = 0; used = 0; fetched = [] }) 0 []

abbrev pub after_1 : Whole
after_1 = with_record after_0 1 (1 ∷ [])

abbrev pub after_2 : Whole
after_2 = with_record after_1 2 (2 ∷ [])

abbrev pub after_3 : Whole
after_3 = with_record after_2 3 (3 ∷ [])

-- after five entries
abbrev pub after_4 : Whole
after_4 = with_record after_3 4 (4 ∷ [])

abbrev pub after_5 : Whole
after_5 = with_record after_4 5 (2 ∷ [])

abbrev pub after_6 : Whole
after_6 = with_record after_5 6 (1 ∷ [])

-- after the split
abbrev pub after_7 : Whole
after_7 = with_record after_6 7 (5 ∷ [])

abbrev pub five : Tree 1
five = record { at = 0; entries = entry 0 0 2 0 ∷ entry 1 6 2 0 ∷ entry 2 4 2 0 ∷ entry 3 2 2 2 ∷ entry 4 1 2 1 ∷ []; kids = 0 ∷ 0 ∷ 0 ∷ 0 ∷ 0 ∷ 0 ∷ [] }

-- a search that ended between two records, and what it fetched
abbrev pub between : (below offset above : ℕ) → (fetched : List ℕ) → Sought
between b o a f = record { end = gap (Some (record { number = b; offset = o })) (Some a); fetched = f }

pub record WorkedExamples : Type 0 where
  -- the first seven entries take 1, 2, 2, 1, 1, 2, 2 reads, the eighth 3
  pub reads :
      reads_for (record { levels = 0; tree = 0; used = 0; fetched = [] }) 0 []
      ∷ reads_for after_0 1 (1 ∷ []) ∷ reads_for after_1 2 (2 ∷ []) ∷ reads_for after_2 3 (3 ∷ []) ∷ reads_for after_3 4 (4 ∷ [])
      ∷ reads_for after_4 5 (2 ∷ []) ∷ reads_for after_5 6 (1 ∷ []) ∷ reads_for after_6 7 (5 ∷ []) ∷ []
      ≡ 1 ∷ 2 ∷ 2 ∷ 1 ∷ 1 ∷ 2 ∷ 2 ∷ 3 ∷ []
  -- after five, the offsets are 0, 6, 4, 2, 1 and the bits 00, 00, 00, 10, 01
  pub five_entered : after_4 ≡ record { levels = 1; tree = five; used = 1; fetched = [] }
  -- 34 is between 2 (offset 6) and 3, 1 read; 10 has none below, 0 above, 1 read; 80 is between 3 (offset 1) and 4, 0 reads;
  -- 60 is record 3, 1 read
  pub lookup_34 : search_for_key 1 five (0x34 ∷ []) ≡ between 2 6 3 (2 ∷ [])
  pub lookup_10 : search_for_key 1 five (0x10 ∷ []) ≡ record { end = gap None (Some 0); fetched = 2 ∷ [] }
  pub lookup_80 : search_for_key 1 five (0x80 ∷ []) ≡ between 3 1 4 []
  pub lookup_60 : search_for_key 1 five (0x60 ∷ []) ≡ record { end = found 3; fetched = 3 ∷ [] }
  -- entry 7 splits: node 0 holds 20, 22, 24, 2C, node 1 holds 50, 60, A0, node 2, the root, holds 30; and 60 now has offset 3 and bits 00
  pub eight_entered : after_7 ≡ record { levels = 2; tree = eight; used = 3; fetched = 3 ∷ 2 ∷ [] }
  -- then 58 is between 7 (offset 5) and 3, 1 read; a walk from 30 into 3 places gives 2, 7, 3, and more
  pub lookup_58 : search_for_key 2 eight (0x58 ∷ []) ≡ between 7 5 3 (7 ∷ [])
  pub walk_30 : rest (bits (0x30 ∷ [])) (fetching eight_keys (0x30 ∷ [])) 2 eight 0 ≡ 2 ∷ 7 ∷ 3 ∷ 4 ∷ []
  -- width 32 and l = 16 pass; 33 and 17 are refused
  pub shape_32_16 : first_ground (shape_grounds 32 16) ≡ None
  pub shape_33_16 : first_ground (shape_grounds 33 16) ≡ Some KeyWidth
  pub shape_32_17 : first_ground (shape_grounds 32 17) ≡ Some PartialLength
