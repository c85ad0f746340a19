-- A text is one locator at most, which has one sheet.
use Rattle.std.proofs.Common.{◌≡◌, ℕ, true, false, List, [], refl, sym, ap, subst, ◌∙◌}
use Rattle.std.specs.Prelude.{Result, Ok, Err}
use Rattle.rpki_der.specs.Prelude.{bit_string, oid, sequence, SpellsLeaf, IsBits, IsOnly}
use Rattle.rpki_der.proofs.LeavesLaws.{bits-one}
use Rattle.rpki.specs.declared.crypto.keys.PublicKeyFormat.{PublicKeyFormat}
use Rattle.rpki.specs.declared.crypto.keys.PublicKeyFormat.TheVariants.{Rsa, EcdsaP256}
use Rattle.rpki.specs.KeyFormat.{IsFormatContents}
use Rattle.rpki.specs.Oids.{rsa_encryption, ec_public_key}
use Rattle.rpki.specs.PublicKey.{KeyParts, IsKeyContents, SpellsKey}
use Rattle.rpki.proofs.PublicKeyLaws.{same-key}
use Rattle.rpki_cert.proofs.OneLaws.{contents-same, leaf-first}
use Rattle.rpki_locator.specs.declared.error.LocatorError.{LocatorError}
use Rattle.rpki_locator.specs.Locator.{IsLocator, TextParts, locator_text, text_parts}
use Rattle.rpki_fields.specs.Field.{FieldParts}
use Rattle.rpki_fields.specs.LocatorText.{locator_fields, IsLocatorSheet, IsSheetOfLocator}
use Rattle.rpki_fields.specs.Sheet.{SheetParts, plain_sheet}
use Rattle.rpki_fields.proofs.OneTextLaws.{one-key}

-- ---- the key

one-format : (f g : PublicKeyFormat) (c : List ℕ) → IsFormatContents f c → IsFormatContents g c → f ≡ g
one-format Rsa Rsa c h k = refl
one-format EcdsaP256 EcdsaP256 c h k = refl
one-format Rsa EcdsaP256 c h k =
    let e = leaf-first oid false (IsOnly rsa_encryption) (IsOnly ec_public_key) tt tt h.1.first k.first h.1.second
    k.second h.1.identifier k.one (sym h.1.parts ∙ k.parts) in
    absurd (let same : rsa_encryption ≡ ec_public_key = sym h.1.identifier.spelled ∙ e.0 ∙ k.one.spelled in cc)
one-format EcdsaP256 Rsa c h k =
    let e = leaf-first oid false (IsOnly ec_public_key) (IsOnly rsa_encryption) tt tt h.first k.1.first h.second
    k.1.second h.one k.1.identifier (sym h.parts ∙ k.1.parts) in
    absurd (let same : ec_public_key ≡ rsa_encryption = sym h.one.spelled ∙ e.0 ∙ k.1.identifier.spelled in cc)

one-contents : (k l : KeyParts) (c : List ℕ) → IsKeyContents k c → IsKeyContents l c → k ≡ l
one-contents k l c h g =
    let e = leaf-first sequence true IsFormatContents IsFormatContents k.format l.format h.first g.first h.second
    g.second h.one g.one (sym h.parts ∙ g.parts) in
    let format = one-format k.format l.format h.one.contents h.one.spelled
    (subst (IsFormatContents l.format) (sym e.0) g.one.spelled) in
    let two : SpellsLeaf bit_string false IsBits l.bits h.second =
    subst (SpellsLeaf bit_string false IsBits l.bits) (sym e.1) g.two in
    let same = contents-same bit_string false h.two.contents two.contents h.second h.two.value two.value in
    let bits = bits-one l.bits two.contents k.bits two.spelled (subst (IsBits k.bits) same h.two.spelled) in
    same-key k l format bits

one-spelled : (k l : KeyParts) (s : List ℕ) → SpellsKey k s → SpellsKey l s → k ≡ l
one-spelled k l s h g =
    let same = contents-same sequence true h.contents g.contents s h.value g.value in
    one-contents k l h.contents h.spelled (subst (IsKeyContents l) (sym same) g.spelled)

-- ---- the locator

-- what a text says, where it says something
abbrev uris_in : Result TextParts LocatorError → List (List ℕ)
uris_in (Ok parts) = parts.uris
uris_in (Err e) = []

abbrev key_in : Result TextParts LocatorError → List ℕ
key_in (Ok parts) = parts.key
key_in (Err e) = []

one-text : (said : Result TextParts LocatorError) (u v : List (List ℕ)) (m n : ℕ) (k l : List ℕ)
    → said ≡ Ok (text_parts u m k) → said ≡ Ok (text_parts v n l) → (u ≡ v) × (k ≡ l)
one-text said u v m n k l h g = (ap uris_in (sym h ∙ g), ap key_in (sym h ∙ g))

pub one-locator : (text : List ℕ) (u v : List (List ℕ)) (k l : KeyParts) → IsLocator text u k → IsLocator text v l
    → (u ≡ v) × (k ≡ l)
one-locator text u v k l h g =
    let same = one-text (locator_text text) u v h.0 g.0 h.1 g.1 h.2 g.2 in
    (same.0, one-spelled k l h.1 h.3 (subst (SpellsKey l) (sym same.1) g.3))

same-sheet : (name text : List ℕ) (uris : List (List ℕ)) (key : KeyParts) (s t : SheetParts)
    → IsLocatorSheet name text uris key s → IsLocatorSheet name text uris key t → s ≡ t
same-sheet name text uris key s t h g =
    h.2 ∙ ap (λ (shown : List FieldParts). plain_sheet (locator_fields name text uris key shown))
    (one-key key h.0 g.0 h.1 g.1) ∙ sym g.2

pub one-locator-sheet : (name text : List ℕ) (s t : SheetParts) → IsSheetOfLocator name text s
    → IsSheetOfLocator name text t → s ≡ t
one-locator-sheet name text s t h g =
    let same = one-locator text h.0 g.0 h.1 g.1 h.2 g.2 in
    same-sheet name text g.0 g.1 s t
    (subst (λ (k : KeyParts). IsLocatorSheet name text g.0 k s) same.1
    (subst (λ (u : List (List ℕ)). IsLocatorSheet name text u h.1 s) same.0 h.3)) g.3
