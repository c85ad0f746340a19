-- Where a part of octets is.
use Rattle.std.specs.Prelude.{◌≡◌, ◌++◌, ℕ, List, length}
use Rattle.rpki_der.specs.declared.section.Section.{Section}

-- the section is the part, and these octets follow it
pub record IsSection (p : Section) (part behind : List ℕ) : Type 0 where
  pub octets : p.octets.now ≡ part
  pub following : p.following ≡ length behind

-- the part is in s, and so many octets follow it
pub record IsSectionOf (s part : List ℕ) (following : ℕ) : Type 0 where
  pub front : List ℕ
  pub behind : List ℕ
  pub parts : s ≡ front ++ (part ++ behind)
  pub size : following ≡ length behind
