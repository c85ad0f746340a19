-- What an encoder writes, as a tree of values (X.690 8.1.1).
use Rattle.std.specs.Prelude.{ℕ, Bool, true, false, ◌<◌, ◌^◌, List, [], ◌++◌, length}
use Rattle.rpki_der.specs.TagName.{TagName}
use Rattle.rpki_der.specs.Header.{tlv}
use Rattle.rpki_der.specs.Members.{IsValueList}

pub data Tree : Type 0 where
  -- no value
  Nothing : Tree
  -- the values of one tree, and then those of another
  Both : (first second : Tree) → Tree
  -- a primitive value
  Primitive : (tag : TagName) (contents : List ℕ) → Tree
  -- a primitive value whose contents are values themselves
  Around : (tag : TagName) (inside : Tree) → Tree
  -- a constructed value
  Constructed : (tag : TagName) (inside : Tree) → Tree
  -- values that are there already, as their octets
  Captured : (octets : List ℕ) → Tree

-- a value of this tag and form around values
abbrev pub around : TagName → Bool → Tree → Tree
around t true inside = Constructed t inside
around t false inside = Around t inside

-- the octets that are written
abbrev pub tree_octets : Tree → List ℕ
tree_octets Nothing = []
tree_octets (Both a b) = tree_octets a ++ tree_octets b
tree_octets (Primitive t c) = tlv t false c
tree_octets (Around t inside) = tlv t false (tree_octets inside)
tree_octets (Constructed t inside) = tlv t true (tree_octets inside)
tree_octets (Captured octets) = octets

-- each value, at every depth, has contents of fewer than 2^32 octets
abbrev pub IsShortTree : Tree → Type 0
IsShortTree Nothing = Unit {0}
IsShortTree (Both a b) = IsShortTree a × IsShortTree b
IsShortTree (Primitive t c) = length c < 2 ^ 32
IsShortTree (Around t inside) = IsShortTree inside × (length (tree_octets inside) < 2 ^ 32)
IsShortTree (Constructed t inside) = IsShortTree inside × (length (tree_octets inside) < 2 ^ 32)
IsShortTree (Captured octets) = IsValueList octets
