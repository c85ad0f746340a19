-- What is written of URIs has one value.
use Rattle.std.proofs.Common.{◌≡◌, ◌≤◌, ◌<◌, ◌^◌, ℕ, Bool, true, false, List, [], ◌∷◌, ◌++◌, length, refl, sym, ap}
use Rattle.std.proofs.Common.{arith, subst, ◌∙◌, Some, None, Option, length-append, map, append-nil}
use Rattle.std.specs.Str.{IsAscii}
use Rattle.rpki_der.specs.Text.{IsIa5Text}
use Rattle.rpki_der.specs.Prelude.{TagName, sequence, oid, context_6, tlv, IsOidOf, SpellsLeaf, SpellsSome}
use Rattle.rpki_der.specs.Prelude.{SpellsEach, Then, Accepts, Spells, sequence_legal}
use Rattle.rpki_der.specs.Listed.{EachHas}
use Rattle.rpki_der.proofs.ComposedLaws.{spelled-whole}
use Rattle.rpki_der.proofs.EncodeLaws.{tlv-some, tlv-same, tlv-legal, tlv-at-least, leaf-legal}
use Rattle.rpki.specs.AlgorithmOctetsLaws.{oid-legal}
use Rattle.rpki_der.proofs.LeafValueLaws.{leaf-some}
use Rattle.rpki_der.proofs.LeavesLaws.{leaf-tag}
use Rattle.rpki_der.proofs.PartsLaws.{pair-is}
use Rattle.rpki.specs.ExtensionValue.{ExtensionParts, extension_parts}
use Rattle.rpki_cert.specs.GeneralName.{SpellsText, SpellsName}
use Rattle.rpki_cert.specs.Access.{Through, SpellsDescription, SpellsRsyncAccess, SpellsAccess, first_rsync, named}
use Rattle.rpki_cert.specs.Access.{SpellsUri, SpellsFullName, SpellsPointName, SpellsPoint, SpellsPoints, SaysUri}
use Rattle.rpki_x509.specs.Tag.{zero_tag}
use Rattle.rpki_cert.proofs.AccessLaws.{accepts-through}
use Rattle.rpki_cert.specs.Known.{Says}
use Rattle.rpki_cert.specs.RuleWords.{SaysSomeUri}
use Rattle.rpki_cert.proofs.GeneralNameLaws.{name-uri}
use Rattle.rpki_cert.proofs.OneLaws.{leaf-first}
use Rattle.rpki_issue.specs.Contents.{uri_octets, description_contents, description_octets, described_octets}
use Rattle.rpki_issue.specs.Contents.{access_octets, points_octets, as_read}
use Rattle.rpki_issue.proofs.ContentsLaws.{text-spelled, inside-few, uri-few, full-few}
use Rattle.rpki_issue.proofs.ContentsLaws.{point-name-few, point-few, points-spelled, IsDescribed}
use Rattle.rpki_issue.proofs.ContentsLaws.{listed-spelled, described-few}

abbrev Parts : List ℕ × Option (List ℕ) → List ℕ → Type 0
Parts = Then (SpellsLeaf oid false IsOidOf) SpellsName

-- no description is written in no octets
nothing-left : (ys : List (List ℕ × Option (List ℕ))) → SpellsEach SpellsDescription ys [] → ys ≡ []
nothing-left [] h = refl
nothing-left (y ∷ ys) (r, k, more) = absurd (omega (
  arith,
  ap length k.parts,
  length-append k.front r,
  leaf-some sequence true Parts y k.front k.spelled,
))

-- what is in a value that is written
inner : {V : Type 0} (t : TagName) (f : Bool) (C : V → List ℕ → Type 0) (v : V) (d : List ℕ) → length d < 2 ^ 32
    → SpellsLeaf t f C v (tlv t f d) → C v d
inner t f C v d few h = subst (C v) (tlv-same t f h.contents d h.value.fits few (sym h.value.octets)) h.spelled

no-uris : (ys : List (Option (List ℕ))) → SpellsEach SpellsUri ys [] → ys ≡ []
no-uris [] h = refl
no-uris (y ∷ ys) (r, k, more) = absurd (omega (
  arith,
  ap length k.parts,
  length-append k.front r,
  leaf-some context_6 false IsIa5Text k.spelled.0 k.front k.spelled.1,
))

module _ (uri : List ℕ) (few : length uri < 3080) (ascii : IsAscii uri) where
  text-accepted : Accepts SpellsText (uri_octets uri) uri []
  text-accepted =
      let text = text-spelled uri few ascii in
      record {
        spells = spelled-whole SpellsText (uri_octets uri) uri text;
        only = λ w q h.
            let e = leaf-first context_6 false IsIa5Text IsIa5Text uri w (uri_octets uri) h.front [] q text h.spelled
            (append-nil (uri_octets uri) ∙ h.parts) in
            (sym h.spelled.spelled.0 ∙ sym e.0 ∙ text.spelled.0, sym e.1);
      }

  name-accepted : Accepts SpellsName (uri_octets uri) (Some uri) []
  name-accepted =
      name-uri (uri_octets uri) uri []
      (leaf-tag context_6 false IsIa5Text (uri_octets uri) uri [] text-accepted.spells) text-accepted

  -- ---- distribution points

  uris-one : (ys : List (Option (List ℕ))) → SpellsEach SpellsUri ys (uri_octets uri) → ys ≡ Some uri ∷ []
  uris-one [] h = absurd (tlv-some context_6 false uri h)
  uris-one (y ∷ ys) (r, k, more) =
      let accepted = accepts-through (λ (text : List ℕ). Some text) SpellsText (uri_octets uri) [] uri text-accepted in
      let a = accepted.only y r k in
      let b = no-uris ys (subst (SpellsEach SpellsUri ys) a.1 more) in
      ap (λ (z : Option (List ℕ)). z ∷ ys) a.0 ∙ ap (λ (zs : List (Option (List ℕ))). Some uri ∷ zs) b

  module _ (first : first_rsync (Some uri ∷ []) ≡ Some uri) where
    points-one : (v : Option (List ℕ)) → SpellsPoints v (points_octets uri) → v ≡ Some uri
    points-one v h =
        let one = uri-few uri few in
        let two = full-few uri few in
        let three = point-name-few uri few in
        let four = point-few uri few in
        let a = inner sequence true SpellsPoint v _ (omega (arith, four)) h in
        let b = inner sequence true SpellsPointName v _ (omega (arith, three)) a in
        let c = inner zero_tag true SpellsFullName v _ (omega (arith, two)) b in
        let d = inner zero_tag true (Through first_rsync (SpellsSome SpellsUri)) v _ (omega (arith, one)) c in
        d.2 ∙ ap first_rsync (uris-one d.0 d.1.each) ∙ first

    pub says-points : (id : List ℕ) → SaysSomeUri SpellsPoints (Some (extension_parts id false (points_octets uri)))
    says-points id = (
      uri,
      (Some (Some uri), (there, only), refl),
    )
      where
        here : ExtensionParts
        here = extension_parts id false (points_octets uri)

        there : Says false SpellsPoints (Some here) (Some (Some uri))
        there = (here, refl, refl, points-spelled uri few ascii first)

        only : (w : Option (Option (List ℕ))) → Says false SpellsPoints (Some here) w → w ≡ Some (Some uri)
        only None h = absurd (cc)
        only (Some v) (x, e, plain, g) =
            let same : here ≡ x = cc in
            ap (λ (z : Option (List ℕ)). Some z)
            (points-one v (subst (λ (y : ExtensionParts). SpellsPoints v y.content) (sym same) g))

-- ---- access descriptions

-- the first description of these octets, and what follows it
description-first : (d : List ℕ × List ℕ) → IsDescribed d → (after : List ℕ) (w : List ℕ × Option (List ℕ)) (q : List ℕ)
    → Spells SpellsDescription (description_octets d.0 d.1 ++ after) w q → (w ≡ as_read d) × (q ≡ after)
description-first d h after w q k =
    let few = inside-few d.1 h.few d.0 h.short in
    let mine : SpellsLeaf oid false IsOidOf d.0 (tlv oid false d.0) = record {
      contents = d.0;
      value = tlv-legal oid false d.0 oid-legal (let s = h.short in omega (arith, s));
      spelled = (refl, h.valid);
    } in
    let both : Parts (as_read d) (description_contents d.0 d.1) = record {
      first = tlv oid false d.0;
      second = uri_octets d.1;
      parts = refl;
      one = mine;
      two = text-spelled d.1 h.few h.ascii;
    } in
    let here : SpellsLeaf sequence true Parts (as_read d) (description_octets d.0 d.1) = record {
      contents = description_contents d.0 d.1;
      value = tlv-legal sequence true (description_contents d.0 d.1) sequence_legal (omega (arith, few));
      spelled = both;
    } in
    let e = leaf-first sequence true Parts Parts (as_read d) w (description_octets d.0 d.1) k.front after q here
    k.spelled k.parts in
    let m = k.spelled.spelled in
    let f = leaf-first oid false IsOidOf IsOidOf d.0 w.0 (tlv oid false d.0) m.first (uri_octets d.1) m.second mine
    m.one (e.0 ∙ m.parts) in
    let name = (name-accepted d.1 h.few h.ascii).only w.1 []
    (spelled-whole SpellsName (uri_octets d.1) w.1 (subst (SpellsName w.1) (sym f.1) m.two)) in
    (pair-is w d.0 (Some d.1) (sym m.one.spelled.0 ∙ sym f.0 ∙ mine.spelled.0) name.0, sym e.1)

-- all of them
described-one : (ds : List (List ℕ × List ℕ)) → EachHas IsDescribed ds → (ys : List (List ℕ × Option (List ℕ)))
    → SpellsEach SpellsDescription ys (described_octets ds) → ys ≡ map as_read ds
described-one [] h ys k = nothing-left ys k
described-one (d ∷ ds) h [] k = absurd (omega (
  arith,
  ap length k,
  length-append (description_octets d.0 d.1) (described_octets ds),
  tlv-at-least sequence true (description_contents d.0 d.1),
))
described-one (d ∷ ds) h (y ∷ ys) (r, k, more) =
    let a = description-first d h.0 (described_octets ds) y r k in
    let b = described-one ds h.1 ys (subst (SpellsEach SpellsDescription ys) a.1 more) in
    ap (λ (z : List ℕ × Option (List ℕ)). z ∷ ys) a.0
    ∙ ap (λ (zs : List (List ℕ × Option (List ℕ))). as_read d ∷ zs) b

module _ (d : List ℕ × List ℕ) (ds : List (List ℕ × List ℕ)) (all : EachHas IsDescribed (d ∷ ds))
    (three : length (d ∷ ds) ≤ 3) where
  abbrev read : List (List ℕ × Option (List ℕ))
  read = map as_read (d ∷ ds)

  pub access-spelled : {V : Type 0} (f : List (List ℕ × Option (List ℕ)) → V)
      → SpellsAccess f (f read) (access_octets (d ∷ ds))
  access-spelled f =
      let few = described-few (d ∷ ds) all three in
      leaf-legal sequence true (Through f (SpellsSome SpellsDescription)) (f read) _
      sequence_legal (omega (arith, few)) (read, listed-spelled d ds all, refl)

  access-one : {V : Type 0} (f : List (List ℕ × Option (List ℕ)) → V) (v : V)
      → SpellsAccess f v (access_octets (d ∷ ds)) → v ≡ f read
  access-one f v h =
      let few = described-few (d ∷ ds) all three in
      let k = inner sequence true (Through f (SpellsSome SpellsDescription)) v _ (omega (arith, few)) h in
      k.2 ∙ ap f (described-one (d ∷ ds) all k.0 k.1.each)

  -- the extension says this URI, and nothing else
  pub says-uri : (method uri id : List ℕ) → first_rsync (named method read) ≡ Some uri
      → SaysUri (SpellsRsyncAccess method) (Some (extension_parts id false (access_octets (d ∷ ds)))) (Some uri)
  says-uri method uri id first = (Some (Some uri), (there, only), refl)
    where
      here : ExtensionParts
      here = extension_parts id false (access_octets (d ∷ ds))

      f : List (List ℕ × Option (List ℕ)) → Option (List ℕ)
      f = λ xs. first_rsync (named method xs)

      there : Says false (SpellsRsyncAccess method) (Some here) (Some (Some uri))
      there = (
        here,
        refl,
        refl,
        subst (λ (v : Option (List ℕ)). SpellsRsyncAccess method v (access_octets (d ∷ ds)))
            first (access-spelled f),
      )

      only : (w : Option (Option (List ℕ))) → Says false (SpellsRsyncAccess method) (Some here) w
          → w ≡ Some (Some uri)
      only None h = absurd (cc)
      only (Some v) (x, e, plain, g) =
          let same : here ≡ x = cc in
          ap (λ (z : Option (List ℕ)). Some z)
          (access-one f v (subst (λ (y : ExtensionParts). SpellsRsyncAccess method v y.content) (sym same) g) ∙ first)
