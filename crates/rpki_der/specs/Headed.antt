-- Values by their headers, and the fault of what is nested in them.
use Rattle.std.specs.Prelude.{◌≡◌, ℕ, Bool, List, ◌++◌, length}
use Rattle.rpki_der.specs.declared.error.DecodeError.{DecodeError}
use Rattle.rpki_der.specs.TagName.{TagName}
use Rattle.rpki_der.specs.WantedValue.{SpellsWanted, IsAnyTag}
use Rattle.rpki_der.specs.Each.{SpellsEach}
use Rattle.rpki_der.specs.Members.{Members, spell, HaveHeaders}
use Rattle.rpki_der.specs.NestedFault.{IsNestedFault}

-- values, in sequence, whose headers are read and whose contents aren't looked at
abbrev pub AreHeaded : List ℕ → Type 0
AreHeaded s = (vs : List (TagName × Bool × List ℕ)) × SpellsEach (SpellsWanted IsAnyTag) vs s

-- s is values by their headers, and then n octets that have the fault e
pub record StopsBefore (s : List ℕ) (n : ℕ) (e : DecodeError) : Type 0 where
  pub front : List ℕ
  pub rest : List ℕ
  pub parts : s ≡ front ++ rest
  pub headed : AreHeaded front
  pub size : length rest ≡ n
  pub fault : IsNestedFault rest e

-- s is values with everything nested in them, and then octets that have the fault e
pub record HasNestedFault (s : List ℕ) (e : DecodeError) : Type 0 where
  pub members : Members
  pub rest : List ℕ
  pub legal : HaveHeaders members
  pub parts : s ≡ spell members ++ rest
  pub fault : IsNestedFault rest e
