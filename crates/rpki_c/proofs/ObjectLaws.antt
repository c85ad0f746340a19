-- The parts of revocation lists, manifests, attestations and signed objects.
use Rattle.std.proofs.Common.{List, ℕ, Option, None, Some, refl, ◌≤◌, ◌<◌, ◌^◌, false, inr, sym, ap, subst, ◌≡◌, Bool}
use Rattle.std.proofs.Common.{[], ◌∷◌}
use Rattle.rpki_der.specs.Parts.{OptionalThen}
use Rattle.rpki_der.specs.Prelude.{only, IsUnsignedBelow}
use Rattle.rpki_crl.specs.Crl.{Entry, each_entry, entries, ListExtensions, extensions, listed}
use Rattle.rpki_crl.specs.CrlView.{entries_in_front}
use Rattle.jiff.specs.Types.{DateTime}
use Rattle.rpki_der.specs.declared.error.DecodeError.TheVariants.{OutOfMemory}
use Rattle.rpki_der.specs.TagName.{integer, generalized_time}
use Rattle.rpki_der.proofs.LeavesLaws.{leaf-no-memory}
use Rattle.rpki_time.specs.TimeValue.{SpellsTime, generalized, time}
use Rattle.rpki_resources.specs.declared.address.Address.{Address}
use Rattle.rpki_contents.specs.declared.manifest_view.ManifestView.{ManifestView}
use Rattle.rpki_contents.specs.declared.roa_address.RoaIpAddress.{RoaIpAddress}
use Rattle.rpki_contents.specs.FilesInPlace.{AreFiles, HoldFiles}
use Rattle.rpki_contents.specs.ListedFile.{ListedFile}
use Rattle.rpki_contents.specs.ManifestView.{IsManifestAt, parts_in}
use Rattle.rpki_contents.specs.RoaAddress.{Parts as AddressParts, roa_address}
use Rattle.rpki_contents.specs.Aspa.{as_number}
use Rattle.rpki_c.specs.Manifest.{IsListing}
use Rattle.std.specs.Prelude.{◌↔◌, IfSome, IsTrue}
use Rattle.std.specs.Option.{is_some, unwrap_or}
use Rattle.rpki_attributes.specs.SignedAttributes.{Attribute, AttributeValues, AreSigned, IsAtMostOnce, signing_time}
use Rattle.rpki_attributes.specs.SignedAttributes.{values_of}
use Rattle.rpki_c.specs.declared.times.Moment.{Moment}
use Rattle.rpki_c.specs.declared.signed_object.SignedObjectParts.{SignedObjectParts as Parts}
use Rattle.rpki_c.specs.Time.{IsMoment}
use Rattle.rpki_c.specs.SignedObject.{IsMomentIf, IsNumberIf, HasValues}
use Rattle.rpki_c.proofs.MomentLaws.{moment}

-- ---- The entries of a revocation list

pub entries-spelled : (xs : Option (List Entry)) (v : ListExtensions) (s : List ℕ)
    (h : OptionalThen entries.spells (only extensions).spells (xs, v) s)
    → each_entry.spells (listed xs) (entries_in_front xs v s h)
entries-spelled None v s h = refl
entries-spelled (Some xs) v s h = h.one.spelled

-- ---- The parts of manifests and of attestations

-- ---- manifests

pub is-time : (t : DateTime) (p : List ℕ) → generalized.spells t p → SpellsTime t p
is-time t p h = record { tag = generalized_time; text = h.contents; value = h.value; reads = inr (refl, h.spelled) }

module _ (s : List ℕ) (v : ManifestView) (xs : List ListedFile) (at : IsManifestAt s v xs) where
  pub is-listing : IsListing (parts_in v xs) s
  is-listing = record {
    spelled = record { contents = at.contents; value = at.value; spelled = at.fields.spelled };
    order = at.order;
  }

  pub held : HoldFiles v.files xs
  held = record {
    files = subst (AreFiles xs) at.fields.octets at.fields.spelled.two.two.two.two.spelled;
    count = at.fields.count;
  }

-- ---- attestations

-- the prefix has at most as many bits as an address, and its number has no more
pub address-is : (w : ℕ) (x : RoaIpAddress) (p : List ℕ) → (roa_address w).spells x p
    → (x.prefix.size ≤ w) × (x.prefix.number < 2 ^ x.prefix.size)
address-is w x p h =
    let a = h.spelled.spelled.one.spelled in
    subst (λ (y : Address). (y.size ≤ w) × (y.number < 2 ^ y.size)) (sym (ap (λ (q : AddressParts). q.0) h.stands.same))
    (a.few, a.has.below)

pub number-no-memory : (s : List ℕ) → as_number.fault s OutOfMemory → ⊥
number-no-memory s h = leaf-no-memory integer false (IsUnsignedBelow (2 ^ 32)) s OutOfMemory h refl

-- ---- What is told of a signed object

-- ---- times

pub moment-once : (t : Option DateTime) (cs : List (List ℕ)) → IsAtMostOnce time cs t → (m : Moment)
    → IfSome t (λ u. u.time.subsec_nanosecond ≡ 0 → IsMoment u m) → IsMomentIf t (is_some t) m
moment-once None cs h m is = refl
moment-once (Some t) [] h m is = absurd h
moment-once (Some t) (c ∷ []) h m is = (refl, moment is refl h)
moment-once (Some t) (c ∷ d ∷ ds) h m is = absurd h

pub number-if : (o : Option ℕ) → IsNumberIf o (is_some o) (unwrap_or o 0)
number-if None = (refl, refl)
number-if (Some n) = (refl, refl)

module _ (strict : Bool) (xs : List Attribute) (u w : AttributeValues) (same : u ≡ w) (say : AreSigned strict xs w)
    (p : Parts) where
  says : AreSigned strict xs u
  says = subst (λ (v : AttributeValues). AreSigned strict xs v) (sym same) say

  pub values-told : p.message_digest ≡ u.message_digest → p.has_signing_time ≡ is_some u.signing_time
      → IfSome u.signing_time (λ t. t.time.subsec_nanosecond ≡ 0 → IsMoment t p.signing_time)
      → p.has_binary_signing_time ≡ is_some u.binary_signing_time
      → p.binary_signing_time ≡ unwrap_or u.binary_signing_time 0 → HasValues w p
  values-told digest has is binary number =
      subst (λ (v : AttributeValues). HasValues v p) same (record {
        message_digest = digest;
        signing_time =
            subst (λ (b : Bool). IsMomentIf u.signing_time b p.signing_time) (sym has)
            (moment-once u.signing_time (values_of signing_time xs) says.signing_time p.signing_time is);
        binary_signing_time =
            subst (λ (b : Bool). IsNumberIf u.binary_signing_time b p.binary_signing_time) (sym binary)
            (subst (λ (n : ℕ). IsNumberIf u.binary_signing_time (is_some u.binary_signing_time) n) (sym number)
            (number-if u.binary_signing_time));
      })

-- the same of other words for both sides
pub same-told : (b : Bool) (t u v w : List ℕ) → t ≡ v → u ≡ w → IsTrue b ↔ (t ≡ u) → IsTrue b ↔ (v ≡ w)
same-told b t u v w e f h =
    subst (λ (x : List ℕ). IsTrue b ↔ (x ≡ w)) e (subst (λ (y : List ℕ). IsTrue b ↔ (t ≡ y)) f h)
