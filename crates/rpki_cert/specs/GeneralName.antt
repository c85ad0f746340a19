-- General names (RFC 5280 4.2.1.6): a choice of the context tags 0 to 8.
use Rattle.std.specs.Prelude.{◌≡◌, ◌⊎◌, ℕ, Bool, true, false, List, Option, Some, None, codes, length}
use Rattle.std.specs.Str.{IsAscii}
use Rattle.rpki_der.specs.declared.error.DecodeError.{DecodeError}
use Rattle.rpki_der.specs.declared.tag.Class.TheVariants.{Context}
use Rattle.rpki_der.specs.TagName.{TagName, context_6}
use Rattle.rpki_der.specs.Reading.{Spells}
use Rattle.rpki_der.specs.Values.{SpellsLeaf, HasTag, IsLeafFault}
use Rattle.rpki_der.specs.WantedValue.{SpellsWanted, IsAnyTag, IsWantedFault}
use Rattle.rpki_der.specs.Leaves.{IsOid}
use Rattle.rpki_der.specs.Text.{IsIa5Text}
use Rattle.rpki_der.specs.Members.{IsValueList}
use Rattle.rpki.specs.Name.{IsName}
use Rattle.rpki.specs.UnknownAlgorithm.{IsContentWith}

-- ---- a URI, under the tag 6: its text, an IA5String

abbrev pub SpellsText : List ℕ → List ℕ → Type 0
SpellsText = SpellsLeaf context_6 false IsIa5Text

abbrev pub IsTextFault : List ℕ → DecodeError → Type 0
IsTextFault = IsLeafFault context_6 false IsIa5Text

-- ---- a name of another form

-- rfc822Name [1] and dNSName [2]: an IA5String
pub record IsTextName (number : ℕ) (c : List ℕ) : Type 0 where
  pub tag : (number ≡ 1) ⊎ (number ≡ 2)
  pub text : IsAscii c

-- iPAddress [7]: four octets, or sixteen
pub record IsAddressName (number : ℕ) (c : List ℕ) : Type 0 where
  pub tag : number ≡ 7
  pub size : (length c ≡ 4) ⊎ (length c ≡ 16)

-- registeredID [8]: an object identifier
pub record IsRegisteredName (number : ℕ) (c : List ℕ) : Type 0 where
  pub tag : number ≡ 8
  pub identifier : IsOid c

-- otherName [0], x400Address [3] and ediPartyName [5]: values, with everything nested in them
pub record IsNestedName (number : ℕ) (c : List ℕ) : Type 0 where
  pub tag : (number ≡ 0) ⊎ (number ≡ 3) ⊎ (number ≡ 5)
  pub nested : IsValueList c

-- directoryName [4]: a Name, which is a CHOICE, and so under an explicit tag (X.680 31.2.7)
pub record IsDirectoryName (number : ℕ) (c : List ℕ) : Type 0 where
  pub tag : number ≡ 4
  pub name : IsName c

-- by the number of the tag, the contents of those that are primitive, and of those that are constructed
abbrev pub IsPlainName : ℕ → List ℕ → Type 0
IsPlainName number c = IsTextName number c ⊎ IsAddressName number c ⊎ IsRegisteredName number c

abbrev pub IsBuiltName : ℕ → List ℕ → Type 0
IsBuiltName number c = IsNestedName number c ⊎ IsDirectoryName number c

abbrev pub IsFormOf : Bool → ℕ → List ℕ → Type 0
IsFormOf false = IsPlainName
IsFormOf true = IsBuiltName

-- a value of this tag, form and contents is such a name
pub record IsOtherName (x : TagName × Bool × List ℕ) : Type 0 where
  pub class : x.0.class ≡ Context
  pub form : IsFormOf x.1 x.0.number x.2

-- ---- a general name: the text of a URI; or a name of another form, which stands for None

abbrev pub SpellsName : Option (List ℕ) → List ℕ → Type 0
SpellsName (Some text) p = SpellsText text p
SpellsName None p = (x : TagName × Bool × List ℕ) × SpellsWanted IsAnyTag x p × IsOtherName x

-- a value begins the octets that is no such name, and the error says so
pub record IsNoName (s : List ℕ) (e : DecodeError) : Type 0 where
  pub value : TagName × Bool × List ℕ
  pub rest : List ℕ
  pub begins : Spells (SpellsWanted IsAnyTag) s value rest
  pub other : IsOtherName value → ⊥
  pub text : IsContentWith (codes "malformed general name") e

-- the error of a text under the tag 6; and else that of any value, or that it is no general name
abbrev pub IsNameFault : List ℕ → DecodeError → Type 0
IsNameFault s e =
    (HasTag context_6 s × IsTextFault s e)
    ⊎ ((HasTag context_6 s → ⊥) × (IsWantedFault IsAnyTag s e ⊎ IsNoName s e))
