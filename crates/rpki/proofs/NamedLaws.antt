-- Which object identifier is in front, from what a reader of any identifier returns.
use Rattle.std.proofs.Common.{◌≡◌, ◌≢◌, ℕ, zero, suc, ◌+◌, ◌-◌, ◌<◌, Bool, true, false, List, [], ◌∷◌, ◌++◌, length}
use Rattle.std.proofs.Common.{get_or, refl, sym, ap, subst, ◌∙◌, arith, IsTrue, eqb, not, ◌&&◌}
use Rattle.std.specs.List.{list_all}
use Rattle.rpki_der.specs.Prelude.{oid, tlv, Spells, Accepts, Refuses, SpellsNothing, SpellsLeaf, IsOid, IsOidOf}
use Rattle.rpki_der.specs.Prelude.{IsOnly}
use Rattle.rpki_der.proofs.EncodeLaws.{tlv-same-then}
use Rattle.rpki.specs.Algorithm.{IsIdentified, IsParameters}
use Rattle.rpki_der.specs.Parts.{SpellsBoth}
use Rattle.rpki_der.proofs.PartsLaws.{both-read, no-first, no-second}

-- ---- identifiers without an octet 80

abbrev has-no-80 : List ℕ → Bool
has-no-80 o = list_all (λ x. not (eqb x 128)) o

not-80 : (x : ℕ) → IsTrue (not (eqb x 128)) → x ≢ 128
not-80 x h e = let k : IsTrue (not (eqb 128 128)) = subst (λ (y : ℕ). IsTrue (not (eqb y 128))) e h in cc

pub and-first : (a b : Bool) → IsTrue (a && b) → IsTrue a
and-first true b h = refl
and-first false b h = h

pub and-second : (a b : Bool) → IsTrue (a && b) → IsTrue b
and-second true b h = h
and-second false b h = absurd (cc)

pub and-both : (a b : Bool) → IsTrue a → IsTrue b → IsTrue (a && b)
and-both true b h k = k
and-both false b h k = h

none-is-80 : (o : List ℕ) (i : ℕ) → IsTrue (has-no-80 o) → i < length o → get_or o i 0 ≢ 128
none-is-80 [] i h lt = absurd (omega arith)
none-is-80 (x ∷ o) zero h lt = not-80 x (and-first (not (eqb x 128)) (has-no-80 o) h)
none-is-80 (x ∷ o) (suc i) h lt = none-is-80 o i (and-second (not (eqb x 128)) (has-no-80 o) h) (omega arith)

pub plain-oid : (o : List ℕ) → IsTrue (has-no-80 o) → 0 < length o → get_or o (length o - 1) 0 < 128 → IsOid o
plain-oid o h some ends = record {
  nonempty = some;
  ends = ends;
  first = none-is-80 o 0 h some;
  shortest = λ i lt low. none-is-80 o (i + 1) h lt;
}

-- ---- the identifier that was read, and others

pub named : (c x m : List ℕ) → Accepts (SpellsLeaf oid false IsOidOf) c x m
    → Accepts (SpellsLeaf oid false (IsOnly x)) c tt m
named c x m a =
    let here = a.spells.spelled in
    let valid : IsOid x = subst IsOid here.spelled.0 here.spelled.1 in
    record {
      spells = record {
        front = a.spells.front;
        parts = a.spells.parts;
        spelled = record
            { contents = here.contents; value = here.value; spelled = here.spelled.0 };
      };
      only = λ w q h.
          let k = h.spelled in
          let e = a.only x q
          (record {
            front = h.front;
            parts = h.parts;
            spelled = record
                { contents = k.contents; value = k.value; spelled = (k.spelled, subst IsOid (sym k.spelled) valid) };
          }) in
          (refl, e.1);
    }

-- what begins with one identifier begins with no other
pub one-name : (c x m o r : List ℕ) → Spells (SpellsLeaf oid false IsOidOf) c x m
    → Spells (SpellsLeaf oid false (IsOnly o)) c tt r → x ≡ o
one-name c x m o r a h =
    let p = a.spelled in let k = h.spelled in
    let both : tlv oid false p.contents ++ m ≡ tlv oid false k.contents ++ r =
    ap (λ (l : List ℕ). l ++ m) (sym p.value.octets) ∙ sym a.parts ∙ h.parts ∙ ap (λ (l : List ℕ). l ++ r)
    k.value.octets in
    sym p.spelled.0 ∙ (tlv-same-then oid false p.contents k.contents m r p.value.fits k.value.fits both).0 ∙ k.spelled

pub other-name : (c x m o : List ℕ) → Spells (SpellsLeaf oid false IsOidOf) c x m → (x ≡ o → ⊥)
    → Refuses (SpellsLeaf oid false (IsOnly o)) c
other-name c x m o a ne w r h = ne (one-name c x m o r a h)

-- where no identifier begins, this one doesn't
pub no-name : (c o : List ℕ) → IsOid o → Refuses (SpellsLeaf oid false IsOidOf) c
    → Refuses (SpellsLeaf oid false (IsOnly o)) c
no-name c o valid none w r h =
    let k = h.spelled in
    none o r (record {
      front = h.front;
      parts = h.parts;
      spelled = record
          { contents = k.contents; value = k.value; spelled = (k.spelled, subst IsOid (sym k.spelled) valid) };
    })

-- ---- identifiers with parameters, as two parts

as-both : (o : List ℕ) (b : Bool) (c : List ℕ) → IsIdentified o b c
    → SpellsBoth (SpellsLeaf oid false (IsOnly o)) IsParameters tt b c
as-both o b c h = record { first = h.first; second = h.second; parts = h.parts; one = h.identifier; two = h.parameters }

pub identified-read : (o c m : List ℕ) (b : Bool) → Accepts (SpellsLeaf oid false (IsOnly o)) c tt m
    → IsParameters b m × ((w : Bool) → IsParameters w m → w ≡ b)
    → IsIdentified o b c × ((w : Bool) → IsIdentified o w c → w ≡ b)
identified-read o c m b a h =
    let k = both-read (SpellsLeaf oid false (IsOnly o)) IsParameters c m tt b a h in (
      record { first = k.0.first; second = k.0.second; parts = k.0.parts; identifier = k.0.one; parameters = k.0.two },
      λ
          w i. (k.1 tt w (as-both o w c i)).1,
    )

pub not-identified : (o c : List ℕ) → Refuses (SpellsLeaf oid false (IsOnly o)) c → (b : Bool) → IsIdentified o b c → ⊥
not-identified o c none b h = no-first (SpellsLeaf oid false (IsOnly o)) IsParameters c none tt b (as-both o b c h)

pub no-parameters : (o c m : List ℕ) → Accepts (SpellsLeaf oid false (IsOnly o)) c tt m → SpellsNothing IsParameters m
    → (b : Bool) → IsIdentified o b c → ⊥
no-parameters o c m a none b h =
    no-second (SpellsLeaf oid false (IsOnly o)) IsParameters c m tt a none tt b (as-both o b c h)
