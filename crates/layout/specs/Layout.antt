-- Layouts: lists of fields, two bytes each.
use Rattle.std.specs.Prelude.{ℕ, ◌+◌, ◌%◌, Bool, true, ◌&&◌, List, [], ◌∷◌, length, eqb, leb}

-- a field of a layout: its kind, 0 unsigned or 1 signed, and its width
pub record Item : Type 0 where
  pub kind : ℕ
  pub width : ℕ

-- the field of a kind and a width
abbrev pub item : ℕ → ℕ → Item
item k w = record { kind = k; width = w }

-- the fields that bytes name, two bytes each
unfoldable pub items_of : List ℕ → List Item
items_of [] = []
items_of (k ∷ []) = []
items_of (k ∷ w ∷ s) = item k w ∷ items_of s

-- a field whose kind is 0 or 1 and whose width is at most 64
abbrev pub good_item : Item → Bool
good_item f = leb f.kind 1 && leb f.width 64

-- fields that all are good
unfoldable pub good_items : List Item → Bool
good_items [] = true
good_items (f ∷ fs) = good_item f && good_items fs

-- whether fields are a layout: at most 64, each with a kind and a width that there is
abbrev pub are_layout : List Item → Bool
are_layout fs = leb (length fs) 64 && good_items fs

-- whether bytes are a layout's
unfoldable pub is_layout : List ℕ → Bool
is_layout s = eqb (length s % 2) 0 && are_layout (items_of s)

-- how many bits fields take
unfoldable pub bits_of : List Item → ℕ
bits_of [] = 0
bits_of (f ∷ fs) = f.width + bits_of fs
