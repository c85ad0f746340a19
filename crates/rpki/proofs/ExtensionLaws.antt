-- Extensions: what their grammar has, one value at most, and what is written of them.
use Rattle.std.proofs.Common.{◌≡◌, ◌↔◌, ℕ, ◌+◌, ◌<◌, ◌≤◌, ◌^◌, Bool, true, false, Option, Some, None, Ok, List, [], ◌∷◌}
use Rattle.std.proofs.Common.{◌++◌, length, inl, inr, refl, sym, ap, subst, ◌∙◌, arith, lit<, append_assoc, append-nil}
use Rattle.std.proofs.Common.{length-append}
use Rattle.std.specs.Prelude.{nat_eq, bytes_eq, unwrap_or}
use Rattle.std.proofs.lemmas.Bool.{false_from_ne_true, eqb-true}
use Rattle.rpki_der.specs.Prelude.{TagName, oid, boolean, octet_string, sequence, tlv, Spells, Accepts, Refuses}
use Rattle.rpki_der.specs.Prelude.{SpellsNothing, ReadsWhere, SpellsContents, SpellsLeaf, HasTag, IsLeafFault, IsOid}
use Rattle.rpki_der.specs.Prelude.{IsOidOf, IsBoolean, boolean_contents, front_contents, after_front, IsValue}
use Rattle.rpki_der.specs.Prelude.{SpellsValue, IsValueList, primitive_value_list, value_lists_append, no_value_list}
use Rattle.rpki_der.proofs.EncodeLaws.{tlv-at-least, tlv_at_most}
use Rattle.rpki_der.proofs.LeafValueLaws.{composed-value-alone}
use Rattle.rpki_der.proofs.LeavesLaws.{leaf-tag}
use Rattle.rpki_der.proofs.ComposedLaws.{all-read}
use Rattle.rpki_der.proofs.FrontLaws.{front_contents_of, after_front-of, contents-alone, nothing-after, one-tag}
use Rattle.rpki_der.proofs.FrontLaws.{contents-tag}
use Rattle.rpki.specs.Extension.{critical_octets, extension_contents}
use Rattle.rpki.specs.ExtensionValue.{ExtensionParts, extension_parts, SpellsCritical, IsExtensionContents}
use Rattle.rpki.specs.ExtensionValue.{SpellsExtension, written_extension, CanBeWritten, parts_in}
use Rattle.rpki.specs.ExtensionValue.{parts_of_extension}

-- ---- one value

-- a BOOLEAN has the contents FF where it is true
is-true : (b : Bool) → bytes_eq (boolean_contents b) (255 ∷ []) ≡ b
is-true true = refl
is-true false = refl

some-length : (xs : List ℕ) → 2 ≤ length xs → nat_eq (length xs) 0 ≡ false
some-length xs h =
    false_from_ne_true (nat_eq (length xs) 0) (λ e. let z = eqb-true (length xs) 0 e in absurd (omega arith))

parts-are : (x : ExtensionParts) (c : List ℕ) → IsExtensionContents x c → parts_in c ≡ x
unfolding parts_in
parts-are x c h = go h.critical
  where
    first : (r : List ℕ) → c ≡ h.first ++ r → (front_contents c ≡ x.identifier) × (after_front c ≡ r)
    first r e = (
      ap front_contents e ∙ front_contents_of oid false h.identifier.contents h.first r h.identifier.value ∙
          h.identifier.spelled.0,
      ap after_front e ∙ after_front-of oid false h.identifier.contents h.first r h.identifier.value,
    )

    go : SpellsCritical x.critical h.second → parts_in c ≡ x
    go (inr (absent, nothing)) =
        let e : c ≡ h.first ++ h.third = h.parts ∙ ap (λ (y : List ℕ). h.first ++ (y ++ h.third)) nothing in
        let f = first h.third e in
        let end = nothing-after octet_string false x.content h.third h.content in
        let last = contents-alone octet_string false x.content h.third h.content in
        rw (f.1, f.0, end, last, ← absent) refl
    go (inl b) =
        let f = first (h.second ++ h.third) h.parts in
        let following = after_front-of boolean false b.contents h.second h.third b.value in
        let flag = front_contents_of boolean false b.contents h.second h.third b.value ∙ b.spelled in
        let last = contents-alone octet_string false x.content h.third h.content in
        let size : 2 ≤ length h.third = omega
        (arith, tlv-at-least octet_string false x.content, ap length h.content.octets) in
        rw (f.1, f.0, following, some-length h.third size, flag, last, is-true x.critical) refl

-- octets that are an extension stand for its parts
pub extension-is : (x : ExtensionParts) (p : List ℕ) → SpellsExtension x p → parts_of_extension p ≡ x
unfolding parts_of_extension
extension-is x p h = ap parts_in (contents-alone sequence true h.contents p h.value) ∙ parts-are x h.contents h.spelled

pub one-extension : (x y : ExtensionParts) (p : List ℕ) → SpellsExtension x p → SpellsExtension y p → x ≡ y
one-extension x y p h k = sym (extension-is x p h) ∙ extension-is y p k

pub one-contents : (x y : ExtensionParts) (c : List ℕ) → IsExtensionContents x c → IsExtensionContents y c → y ≡ x
one-contents x y c h k = sym (parts-are y c k) ∙ parts-are x c h

-- ---- reading the parts

abbrev Identifier : List ℕ → List ℕ → Type 0
Identifier = SpellsLeaf oid false IsOidOf

abbrev Flag : Bool → List ℕ → Type 0
Flag = SpellsLeaf boolean false IsBoolean

abbrev Octets : List ℕ → List ℕ → Type 0
Octets = SpellsContents octet_string false

-- what the reader of an optional BOOLEAN returned
abbrev pub AnswersFlag : List ℕ → List ℕ → Option Bool → Type 0
AnswersFlag m r p = ReadsWhere (HasTag boolean) (λ (b : Bool). b) Flag (IsLeafFault boolean false IsBoolean) m r (Ok p)

first-part : (x : ExtensionParts) (c : List ℕ) (h : IsExtensionContents x c)
    → Spells Identifier c x.identifier (h.second ++ h.third)
first-part x c h = record { front = h.first; parts = h.parts; spelled = h.identifier }

pub no-identifier : (c : List ℕ) → Refuses Identifier c → SpellsNothing IsExtensionContents c
no-identifier c none x h = none x.identifier (h.second ++ h.third) (first-part x c h)

-- after the identifier are the others
others : (x : ExtensionParts) (c i m : List ℕ) → Accepts Identifier c i m → (h : IsExtensionContents x c)
    → h.second ++ h.third ≡ m
others x c i m a h = (a.only x.identifier (h.second ++ h.third) (first-part x c h)).1

-- an OCTET STRING is no BOOLEAN
no-flag : (m third content : List ℕ) → m ≡ third → Octets content third → HasTag boolean m → ⊥
no-flag m third content e o has =
    let found = contents-tag octet_string false m content []
    (record { front = third; parts = e ∙ sym (append-nil third); spelled = o }) in
    let same = ap (λ (t : TagName). t.number) (one-tag m boolean octet_string has found) in
    absurd (omega arith)

pub bad-flag : (c i m : List ℕ) → Accepts Identifier c i m → HasTag boolean m → Refuses Flag m
    → SpellsNothing IsExtensionContents c
bad-flag c i m a has none x h = go h.critical
  where
    go : SpellsCritical x.critical h.second → ⊥
    go (inl b) = none x.critical h.third (record { front = h.second; parts = sym (others x c i m a h); spelled = b })
    go (inr (absent, nothing)) = no-flag m h.third x.content
        (sym (others x c i m a h) ∙ ap (λ (y : List ℕ). y ++ h.third) nothing) h.content has

-- what remains after the BOOLEAN, if there is one, is the OCTET STRING
left-octets : (x : ExtensionParts) (c i m r : List ℕ) (p : Option Bool) → Accepts Identifier c i m → AnswersFlag m r p
    → (h : IsExtensionContents x c) → h.third ≡ r
left-octets x c i m r None a (none, same) h = go h.critical
  where
    go : SpellsCritical x.critical h.second → h.third ≡ r
    go (inl b) = absurd
        (none (leaf-tag boolean false IsBoolean m x.critical h.third
        (record { front = h.second; parts = sym (others x c i m a h); spelled = b })))
    go (inr (absent, nothing)) = ap (λ (y : List ℕ). y ++ h.third) (sym nothing) ∙ others x c i m a h ∙ sym same
left-octets x c i m r (Some b) a (has, n) h = go h.critical
  where
    go : SpellsCritical x.critical h.second → h.third ≡ r
    go (inl k) =
        (n.only x.critical h.third (record { front = h.second; parts = sym (others x c i m a h); spelled = k })).1
    go (inr (absent, nothing)) = absurd (no-flag m h.third x.content
        (sym (others x c i m a h) ∙ ap (λ (y : List ℕ). y ++ h.third) nothing) h.content has)

pub no-octets : (c i m r : List ℕ) (p : Option Bool) → Accepts Identifier c i m → AnswersFlag m r p → Refuses Octets r
    → SpellsNothing IsExtensionContents c
no-octets c i m r p a f none x h =
    none x.content []
    (record {
      front = h.third;
      parts = sym (left-octets x c i m r p a f h) ∙ sym (append-nil h.third);
      spelled =
          h.content;
    })

pub more-following : (c i m r o q : List ℕ) (p : Option Bool) → Accepts Identifier c i m → AnswersFlag m r p
    → Accepts Octets r o q → (q ≡ [] → ⊥) → SpellsNothing IsExtensionContents c
more-following c i m r o q p a f g some x h =
    some (sym
    (g.only x.content []
    (record {
      front = h.third;
      parts = sym (left-octets x c i m r p a f h) ∙ sym (append-nil h.third);
      spelled =
          h.content;
    })).1)

pub parts-read : (c i m r o q : List ℕ) (p : Option Bool) → Accepts Identifier c i m → AnswersFlag m r p
    → Accepts Octets r o q → q ≡ [] → IsExtensionContents (extension_parts i (unwrap_or p false) o) c
parts-read c i m r o q None a (none, same) g end = record {
  first = a.spells.front;
  second = [];
  third = r;
  parts = a.spells.parts ∙ ap (λ (y : List ℕ). a.spells.front ++ y) (sym same);
  identifier = a.spells.spelled;
  critical = inr (refl, refl);
  content = (all-read Octets r o q g end).0;
}
parts-read c i m r o q (Some b) a (has, n) g end = record {
  first = a.spells.front;
  second = n.spells.front;
  third = r;
  parts = a.spells.parts ∙ ap (λ (y : List ℕ). a.spells.front ++ y) n.spells.parts;
  identifier = a.spells.spelled;
  critical = inl n.spells.spelled;
  content = (all-read Octets r o q g end).0;
}

-- ---- an extension is one value

flag-values : (b : Bool) (p : List ℕ) → SpellsCritical b p → IsValueList p
flag-values b p (inl h) =
    subst IsValueList (sym h.value.octets) (primitive_value_list boolean h.contents h.value.tag h.value.fits)
flag-values b p (inr (absent, nothing)) = subst IsValueList (sym nothing) no_value_list

contents-values : (x : ExtensionParts) (c : List ℕ) → IsExtensionContents x c → IsValueList c
contents-values x c h =
    let one = subst IsValueList (sym h.identifier.value.octets)
    (primitive_value_list oid h.identifier.contents h.identifier.value.tag h.identifier.value.fits) in
    let last = subst IsValueList (sym h.content.octets)
    (primitive_value_list octet_string x.content h.content.tag h.content.fits) in
    subst IsValueList (sym h.parts)
    (value_lists_append h.first (h.second ++ h.third) one
    (value_lists_append h.second h.third (flag-values x.critical h.second h.critical) last))

pub extension-value : (x : ExtensionParts) (p : List ℕ) → SpellsExtension x p → IsValue p
extension-value x p h = composed-value-alone sequence IsExtensionContents x p (contents-values x) h

-- ---- an extension, captured

-- it is the value at the front
captured-is : {s q r c : List ℕ} {x : ExtensionParts} → Accepts SpellsExtension s x q → Accepts SpellsValue s c r
    → SpellsExtension x c × (q ≡ r)
captured-is {s} {q} {r} {c} {x} a h =
    let p = a.spells.front in
    let e = h.only p q
    (record {
      front = p;
      parts = a.spells.parts;
      spelled = record { same = refl; value = extension-value x p a.spells.spelled };
    }) in
    (subst (SpellsExtension x) e.0 a.spells.spelled, e.1)

pub captured-spelled : {s q r c : List ℕ} {x : ExtensionParts} → Accepts SpellsExtension s x q
    → Accepts SpellsValue s c r → SpellsExtension (parts_of_extension c) c
captured-spelled {s} {q} {r} {c} {x} a h =
    let k = captured-is a h in
    subst (λ (y : ExtensionParts). SpellsExtension y c) (sym (extension-is x c k.0)) k.0

pub extension-captured : {s q r c : List ℕ} {x : ExtensionParts} → Accepts SpellsExtension s x q
    → Accepts SpellsValue s c r → Accepts SpellsExtension s (parts_of_extension c) r
extension-captured {s} {q} {r} {c} {x} a h =
    let k = captured-is a h in
    subst (λ (y : ExtensionParts). Accepts SpellsExtension s y r) (sym (extension-is x c k.0))
    (subst (Accepts SpellsExtension s x) k.1 a)

-- it is there, so that it is no more than allocation that fails
pub value-there : {s q : List ℕ} {x : ExtensionParts} → Accepts SpellsExtension s x q → Refuses SpellsValue s → ⊥
value-there {s} {q} {x} a none =
    let p = a.spells.front in
    none p q
    (record {
      front = p;
      parts = a.spells.parts;
      spelled = record { same = refl; value = extension-value x p a.spells.spelled };
    })

-- ---- what is written

critical-legal : (b : Bool) → SpellsCritical b (critical_octets b)
critical-legal true = inl
    (record {
      contents = 255 ∷ [];
      value = record
          { tag = record { below = lit< tt; named = λ _. lit< tt }; fits = lit< tt; octets = refl };
      spelled = refl;
    })
critical-legal false = inr (refl, refl)

pub written-read : (x : ExtensionParts) → CanBeWritten x → SpellsExtension x (written_extension x)
written-read x h =
    let first = tlv oid false x.identifier in
    let flag = critical_octets x.critical in
    let third = tlv octet_string false x.content in
    let sizes : length x.identifier + length x.content < 2 ^ 32 =
    omega (
      arith,
      h.short,
      length-append (first ++ flag) third,
      length-append first flag,
      tlv-at-least oid false
          x.identifier,
      tlv-at-least octet_string false x.content,
    ) in
    record {
      contents = extension_contents x.identifier x.critical x.content;
      value = record { tag = record { below = lit< tt; named = λ _. lit< tt }; fits = h.short; octets = refl };
      spelled = record {
        first = first;
        second = flag;
        third = third;
        parts = append_assoc first flag third;
        identifier = record {
          contents = x.identifier;
          value = record
              { tag = record { below = lit< tt; named = λ _. lit< tt }; fits = omega arith; octets = refl };
          spelled =
              (refl, h.identifier);
        };
        critical = critical-legal x.critical;
        content = record { tag = record { below = lit< tt; named = λ _. lit< tt }; fits = omega arith; octets = refl };
      };
    }

-- at most what was read is written
critical-at-most : (b : Bool) (p : List ℕ) → SpellsCritical b p → length (critical_octets b) ≤ length p
critical-at-most true (p) (inl h) =
    let e = h.value.octets ∙ ap (λ (c : List ℕ). tlv boolean false c) h.spelled in omega (arith, ap length e)
critical-at-most true p (inr (absent, nothing)) = absurd (cc)
critical-at-most false p h = omega arith

pub can-be-written : (x : ExtensionParts) (p : List ℕ) → SpellsExtension x p → CanBeWritten x
can-be-written x p h =
    let k = h.spelled in
    let first = tlv oid false x.identifier in
    let flag = critical_octets x.critical in
    let third = tlv octet_string false x.content in
    let named : k.first ≡ first = k.identifier.value.octets ∙ ap (λ (c : List ℕ). tlv oid false c)
    k.identifier.spelled.0 in
    record {
      identifier = subst IsOid k.identifier.spelled.0 k.identifier.spelled.1;
      short = omega (
        arith,
        h.value.fits,
        ap length k.parts,
        length-append k.first (k.second ++ k.third),
        length-append k.second k.third,
        length-append (first ++ flag) third,
        length-append first flag,
        ap length named,
        ap length k.content.octets,
        critical-at-most x.critical k.second k.critical,
      );
    }

pub written-fits : (x : ExtensionParts) → CanBeWritten x → length (written_extension x) < 2 ^ 63
written-fits x h =
    omega (arith, h.short, tlv_at_most sequence true (extension_contents x.identifier x.critical x.content))

pub written-same : (x y : ExtensionParts) → CanBeWritten x → CanBeWritten y
    → (written_extension x ≡ written_extension y) ↔ (x ≡ y)
written-same x y h k = (
  λ e. one-extension x y (written_extension y) (subst (SpellsExtension x) e (written-read x h)) (written-read y k),
  λ e. ap written_extension e,
)
