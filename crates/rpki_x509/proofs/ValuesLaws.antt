-- What is spelled is values, in sequence: leaves, parts, an algorithm, a name, a time.
use Rattle.std.proofs.Common.{◌≡◌, ℕ, true, false, List, refl, sym, subst}
use Rattle.rpki_der.specs.TagName.{TagName, sequence, oid, null}
use Rattle.rpki_der.specs.Values.{SpellsLeaf}
use Rattle.rpki_der.specs.Leaves.{IsNull, IsOnly}
use Rattle.rpki_der.specs.Parts.{Then}
use Rattle.rpki_der.specs.Members.{IsValue, IsValueList}
use Rattle.rpki_der.specs.ValueListLaws.{no_value_list, value_lists_append}
use Rattle.rpki_der.proofs.LeafValueLaws.{leaf-value-alone, composed-value-alone}
use Rattle.rpki_time.specs.TimeValue.{SpellsTime}
use Rattle.rpki.specs.Oids.{sha256_with_rsa_encryption}
use Rattle.rpki.specs.Algorithm.{IsParameters, IsIdentified}
use Rattle.rpki.specs.Name.{SpellsNameOctets}
use Rattle.rpki.proofs.NameLaws.{name-value}
use Rattle.rpki_x509.specs.Signed.{SpellsRpkiAlgorithm}

-- what is spelled in G is values, in sequence
abbrev pub SpellValues : {V : Type 0} → (V → List ℕ → Type 0) → Type 0
SpellValues {V} G = (v : V) (p : List ℕ) → G v p → IsValueList p

pub leaf-values : {V : Type 0} (t : TagName) (C : V → List ℕ → Type 0) → SpellValues (SpellsLeaf t false C)
leaf-values t C v p h = (1, leaf-value-alone t C v p h)

pub inside-values : {V : Type 0} (t : TagName) (C : V → List ℕ → Type 0) → SpellValues C
    → SpellValues (SpellsLeaf t true C)
inside-values t C inside v p h = (1, composed-value-alone t C v p (inside v) h)

pub both-values : {A B : Type 0} (G : A → List ℕ → Type 0) (H : B → List ℕ → Type 0) → SpellValues G → SpellValues H
    → SpellValues (Then G H)
both-values G H one two x p h = subst IsValueList (sym h.parts)
    (value_lists_append h.first h.second (one x.0 h.first h.one) (two x.1 h.second h.two))

-- ---- the fields

pub parameters-values : SpellValues IsParameters
parameters-values true p h = leaf-values null IsNull tt p h
parameters-values false p h = subst IsValueList (sym h) no_value_list

pub identified-values : (o : List ℕ) → SpellValues (IsIdentified o)
identified-values o b c h =
    subst IsValueList (sym h.parts)
    (value_lists_append h.first h.second (leaf-values oid (IsOnly o) tt h.first h.identifier)
    (parameters-values b h.second h.parameters))

pub algorithm-values : SpellValues SpellsRpkiAlgorithm
algorithm-values = inside-values sequence (IsIdentified sha256_with_rsa_encryption)
    (identified-values sha256_with_rsa_encryption)

pub name-values : SpellValues SpellsNameOctets
name-values v p h = (1, subst IsValue (sym h.same) (name-value h.named.0 v h.named.1))

pub time-values : SpellValues SpellsTime
time-values t p h = leaf-values h.tag (λ (v : List ℕ) (c : List ℕ). c ≡ v) h.text p
    (record { contents = h.text; value = h.value; spelled = refl })
