-- What access information tells, gathered in one reading.
use Rattle.std.proofs.Common.{◌≡◌, ◌∙◌, ℕ, Bool, true, false, List, [], ◌∷◌, IsTrue, Option, Some, None, refl, sym, ap}
use Rattle.std.proofs.Common.{subst}
use Rattle.std.specs.Prelude.{◌&&◌, ◌||◌, ◌↔◌, not, if◌then◌else◌, bytes_eq}
use Rattle.std.specs.Option.{is_some, option_or, option_map, option_copied}
use denote.Ref.{Bor}
use Rattle.std.specs.List.{list_all}
use Rattle.rpki_der.specs.declared.error.DecodeError.{DecodeError}
use Rattle.rpki_der.specs.declared.error.DecodeError.TheVariants.{OutOfMemory}
use Rattle.rpki_der.specs.TagName.{oid}
use Rattle.rpki_der.specs.Leaves.{IsOidOf}
use Rattle.rpki_der.specs.Reading.{AnyFault, Refusal, Refuses}
use Rattle.rpki_der.specs.Values.{SpellsLeaf, IsLeafFault}
use Rattle.rpki_der.proofs.LeavesLaws.{leaf-no-memory}
use Rattle.rpki.specs.ExtensionValue.{ExtensionParts}
use Rattle.rpki.specs.declared.repository.error.ValidationError.{ValidationError}
use Rattle.rpki_text.specs.HttpsText.{https_refusal}
use Rattle.rpki_cert.specs.declared.extension.access_method.AccessMethod.{AccessMethod}
use Rattle.rpki_cert.specs.declared.extension.access_method.AccessMethod.TheVariants.{CaIssuers, CaRepository}
use Rattle.rpki_cert.specs.declared.extension.access_method.AccessMethod.TheVariants.{RpkiManifest}
use Rattle.rpki_cert.specs.declared.extension.access_method.AccessMethod.TheVariants.{SignedObject, RpkiNotify}
use Rattle.rpki_cert.specs.declared.extension.access_rule.AccessRule.{AccessRule}
use Rattle.rpki_cert.specs.declared.extension.access_rule.AccessRule.TheVariants.{EndEntity, Notification}
use Rattle.rpki_cert.specs.Access.{ca_issuers, ca_repository, rpki_manifest, signed_object, rpki_notify, named, chosen}
use Rattle.rpki_cert.specs.Access.{allows, is_https, first_rsync, first_https, flat, SaysUri, SpellsAccess}
use Rattle.rpki_cert.specs.Access.{SpellsHeldAccess}
use Rattle.rpki_cert.specs.AccessInformation.{AccessParts, access_parts, joined, uri_at, SpellsUriOf, obeyed}
use Rattle.rpki_cert.specs.Known.{Says, SaysOnly, SaysNone, IsFoundWrong}
use Rattle.rpki_cert.specs.RuleWords.{SaysSome}
use Rattle.rpki_cert.proofs.AccessLaws.{or-first, or-first-https, or-none}
use Rattle.rpki_x509.proofs.FrameLaws.{refused}

-- ---- a description

pub identifier-refused : (s r : List ℕ) (e : DecodeError)
    → Refusal (SpellsLeaf oid false IsOidOf) (IsLeafFault oid false IsOidOf) s r e
    → Refuses (SpellsLeaf oid false IsOidOf) s
identifier-refused s r e h = refused (SpellsLeaf oid false IsOidOf) (IsLeafFault oid false IsOidOf) s r e
    (λ k. leaf-no-memory oid false IsOidOf s OutOfMemory k refl) h

either-https : (b : Bool) (text : List ℕ) → is_some (if b then None else Some text) ≡ not b
either-https true text = refl
either-https false text = refl

first-is-https : (name : Option (List ℕ)) → is_some (first_https (name ∷ [])) ≡ is_https name
first-is-https None = refl
first-is-https (Some text) = either-https (is_some (https_refusal text)) text

-- a description is of another method, or its name is an https URI
pub located : (same : Bool) (name : Option (List ℕ))
    → (not same || is_some (first_https (chosen (same, name) ∷ []))) ≡ (not same || is_https name)
located true name = first-is-https name
located false name = refl

-- ---- descriptions, in sequence

abbrev pub made : (issuer repository manifest object notifications : Option (List ℕ)) (end https : Bool) → AccessParts
made issuer repository manifest object notifications end https = record {
  issuer = issuer;
  repository = repository;
  manifest = manifest;
  object = object;
  notifications = notifications;
  of_end_entity = end;
  by_https = https;
}

-- as a loop keeps them
abbrev pub kept : (issuer repository manifest object notifications : Option (Bor (List ℕ))) (end https : Bool)
    → AccessParts
kept issuer repository manifest object notifications end https =
    made (option_copied issuer) (option_copied repository) (option_copied manifest) (option_copied object)
    (option_copied notifications) end https

pub same-parts : (a b : AccessParts) → a.issuer ≡ b.issuer → a.repository ≡ b.repository → a.manifest ≡ b.manifest
    → a.object ≡ b.object → a.notifications ≡ b.notifications → a.of_end_entity ≡ b.of_end_entity
    → a.by_https ≡ b.by_https → a ≡ b
same-parts a b issuer repository manifest object notifications end https =
    ap (λ (x : Option (List ℕ)). made x a.repository a.manifest a.object a.notifications a.of_end_entity a.by_https)
    issuer
    ∙ ap (λ (x : Option (List ℕ)). made b.issuer x a.manifest a.object a.notifications a.of_end_entity a.by_https)
    repository
    ∙ ap (λ (x : Option (List ℕ)). made b.issuer b.repository x a.object a.notifications a.of_end_entity a.by_https)
    manifest
    ∙ ap (λ (x : Option (List ℕ)). made b.issuer b.repository b.manifest x a.notifications a.of_end_entity a.by_https)
    object
    ∙ ap (λ (x : Option (List ℕ)). made b.issuer b.repository b.manifest b.object x a.of_end_entity a.by_https)
    notifications
    ∙ ap (λ (x : Bool). made b.issuer b.repository b.manifest b.object b.notifications x a.by_https) end
    ∙ ap (λ (x : Bool). made b.issuer b.repository b.manifest b.object b.notifications b.of_end_entity x) https

and-true : (b : Bool) → (b && true) ≡ b
and-true true = refl
and-true false = refl

-- both are true, of which the second says t
pub both-told : (r a b t : Bool) → r ≡ (a && b) → b ≡ t → r ≡ (a && (t && true))
both-told r a b t e f = e ∙ ap (λ (x : Bool). a && x) (f ∙ sym (and-true t))

and-next : (a b x : Bool) → (a && (b && x)) ≡ ((a && (b && true)) && x)
and-next true true x = refl
and-next true false x = refl
and-next false b x = refl

-- a is what was told, x the next description, and b what is told with it
pub next-told : (a b : AccessParts) (x : List ℕ × Option (List ℕ)) → b ≡ joined a (access_parts (x ∷ []))
    → (zs : List (List ℕ × Option (List ℕ))) → joined a (access_parts (x ∷ zs)) ≡ joined b (access_parts zs)
next-told a b x is zs =
    subst (λ (c : AccessParts). joined a (access_parts (x ∷ zs)) ≡ joined c (access_parts zs)) (sym is)
    (same-parts (joined a (access_parts (x ∷ zs))) (joined (joined a (access_parts (x ∷ []))) (access_parts zs))
    (rsync ca_issuers a.issuer) (rsync ca_repository a.repository) (rsync rpki_manifest a.manifest)
    (rsync signed_object a.object) (https a.notifications)
    (and-next a.of_end_entity (allows EndEntity x) (list_all (allows EndEntity) zs))
    (and-next a.by_https (allows Notification x) (list_all (allows Notification) zs)))
  where
    rsync : (method : List ℕ) (o : Option (List ℕ))
        → option_or o (first_rsync (named method (x ∷ zs)))
        ≡ option_or (option_or o (first_rsync (named method (x ∷ [])))) (first_rsync (named method zs))
    rsync method o = or-first o (chosen (bytes_eq x.0 method, x.1)) (named method zs)

    https : (o : Option (List ℕ)) → option_or o (first_https (named rpki_notify (x ∷ zs)))
        ≡ option_or (option_or o (first_https (named rpki_notify (x ∷ [])))) (first_https (named rpki_notify zs))
    https o = or-first-https o (chosen (bytes_eq x.0 rpki_notify, x.1)) (named rpki_notify zs)

pub none-told : (a : AccessParts) → a ≡ access_parts [] → (u : AccessParts) → u ≡ joined a u
none-told a is u = subst (λ (b : AccessParts). u ≡ joined b u) (sym is)
    (same-parts u (joined (access_parts []) u) refl refl refl refl refl refl refl)

pub all-told : (a : AccessParts) → joined a (access_parts []) ≡ a
all-told a =
    same-parts (joined a (access_parts [])) a (or-none a.issuer) (or-none a.repository) (or-none a.manifest)
    (or-none a.object) (or-none a.notifications) (and-true a.of_end_entity) (and-true a.by_https)

-- ---- what is made of what is told

module _ {U V : Type 0} (g : List (List ℕ × Option (List ℕ)) → U) (part : U → V) where
  abbrev Part : V → List ℕ → Type 0
  Part = SpellsAccess (λ xs. part (g xs))

  part-of : (u : U) (s : List ℕ) → SpellsAccess g u s → Part (part u) s
  part-of u s h = record {
    contents = h.contents;
    value = h.value;
    spelled =
        (h.spelled.0, h.spelled.1, ap part h.spelled.2);
  }

  whole-of : (v : V) (s : List ℕ) → Part v s → (u : U) × SpellsAccess g u s × (v ≡ part u)
  whole-of v s h = (
    g h.spelled.0,
    record { contents = h.contents; value = h.value; spelled = (h.spelled.0, h.spelled.1, refl) },
    h.spelled.2,
  )

  one-some : (u w : U) → ◌≡◌ {A = Option U} (Some u) (Some w) → u ≡ w
  one-some u w e = cc

  none-some : (u : U) → ◌≡◌ {A = Option U} (Some u) None → ⊥
  none-some u e = cc

  some-none : (u : U) → ◌≡◌ {A = Option U} None (Some u) → ⊥
  some-none u e = cc

  says-whole : (found : Option ExtensionParts) (v : V) → Says false Part found (Some v)
      → (u : U) × Says false (SpellsAccess g) found (Some u) × (v ≡ part u)
  says-whole found v k = let (u, h, e) = whole-of v k.0.content k.3 in (u, (k.0, k.1, k.2, h), e)

  pub says-part : (found : Option ExtensionParts) (o : Option U) → SaysOnly false (SpellsAccess g) found o
      → SaysOnly false Part found (option_map part o)
  says-part found None h = (h.0, only) where
    only : (w : Option V) → Says false Part found w → w ≡ None
    only None k = refl
    only (Some v) k = let (u, l, e) = says-whole found v k in absurd (none-some u (h.1 (Some u) l))
  says-part found (Some u) h = ((h.0.0, h.0.1, h.0.2, part-of u h.0.0.content h.0.3), only) where
    only : (w : Option V) → Says false Part found w → w ≡ Some (part u)
    only None k = absurd (some-none u (h.1 None k))
    only (Some v) k = let (w, l, e) = says-whole found v k in ap (λ (x : V). Some x)
        (e ∙ ap part (one-some w u (h.1 (Some w) l)))

  pub says-no-part : (found : Option ExtensionParts) → SaysNone false (SpellsAccess g) found → SaysNone false Part found
  says-no-part found none None k = none None k
  says-no-part found none (Some v) k = let (u, l, e) = says-whole found v k in none (Some u) l

-- ---- the URI of a method

pub told-uri : (method : AccessMethod) (found : Option ExtensionParts) (o : Option AccessParts)
    → SaysOnly false (SpellsAccess access_parts) found o
    → SaysUri (SpellsUriOf method) found (flat (option_map (uri_at method) o))
told-uri CaIssuers found o h = (
  option_map (uri_at CaIssuers) o,
  says-part access_parts (uri_at CaIssuers) found o h,
  refl,
)
told-uri CaRepository found o h = (
  option_map (uri_at CaRepository) o,
  says-part access_parts (uri_at CaRepository) found o h,
  refl,
)
told-uri RpkiManifest found o h = (
  option_map (uri_at RpkiManifest) o,
  says-part access_parts (uri_at RpkiManifest) found o h,
  refl,
)
told-uri SignedObject found o h = (
  option_map (uri_at SignedObject) o,
  says-part access_parts (uri_at SignedObject) found o h,
  refl,
)
told-uri RpkiNotify found o h = (
  option_map (uri_at RpkiNotify) o,
  says-part access_parts (uri_at RpkiNotify) found o h,
  refl,
)

no-uri : (method : AccessMethod) (found : Option ExtensionParts) → SaysNone false (SpellsAccess access_parts) found
    → SaysNone false (SpellsUriOf method) found
no-uri CaIssuers = says-no-part access_parts (uri_at CaIssuers)
no-uri CaRepository = says-no-part access_parts (uri_at CaRepository)
no-uri RpkiManifest = says-no-part access_parts (uri_at RpkiManifest)
no-uri SignedObject = says-no-part access_parts (uri_at SignedObject)
no-uri RpkiNotify = says-no-part access_parts (uri_at RpkiNotify)

pub wrong-uri : (method : AccessMethod) (found : Option ExtensionParts) (e : ValidationError)
    → IsFoundWrong false (SpellsAccess access_parts) AnyFault found e
    → IsFoundWrong false (SpellsUriOf method) AnyFault found e
wrong-uri method found e h = (no-uri method found h.0, h.1)

-- ---- descriptions that are checked against a rule

obeyed-all : (rule : AccessRule) (xs : List (List ℕ × Option (List ℕ)))
    → obeyed rule (access_parts xs) ≡ list_all (allows rule) xs
obeyed-all EndEntity xs = refl
obeyed-all Notification xs = refl

held-told : (rule : AccessRule) (found : Option ExtensionParts) → SaysSome false (SpellsHeldAccess rule) found
    → (xs : List (List ℕ × Option (List ℕ))) × Says false (SpellsAccess access_parts) found (Some (access_parts xs))
    × IsTrue (obeyed rule (access_parts xs))
held-told rule found (xs, (x, is, same, (leaf, all))) = (
  xs,
  (x, is, same, record { contents = leaf.contents; value = leaf.value; spelled = (xs, leaf.spelled, refl) }),
  subst (λ (b : Bool). IsTrue b) (sym (obeyed-all rule xs)) all,
)

one-told : (a b : AccessParts) → ◌≡◌ {A = Option AccessParts} (Some a) (Some b) → a ≡ b
one-told a b e = cc

pub held-there : (rule : AccessRule) (found : Option ExtensionParts) (a : AccessParts)
    → SaysOnly false (SpellsAccess access_parts) found (Some a)
    → IsTrue (obeyed rule a) ↔ SaysSome false (SpellsHeldAccess rule) found
held-there rule found a ((x, is, same, leaf), only) = (there, back) where
  there : IsTrue (obeyed rule a) → SaysSome false (SpellsHeldAccess rule) found
  there z =
      let (xs, some, told) = leaf.spelled in (
        xs,
        (
          x,
          is,
          same,
          (
            record { contents = leaf.contents; value = leaf.value; spelled = some },
            subst (λ (b : Bool). IsTrue b) (ap (obeyed rule) told ∙ obeyed-all rule xs) z,
          ),
        ),
      )

  back : SaysSome false (SpellsHeldAccess rule) found → IsTrue (obeyed rule a)
  back k = let (xs, l, all) = held-told rule found k in subst (λ (b : AccessParts). IsTrue (obeyed rule b))
      (one-told (access_parts xs) a (only (Some (access_parts xs)) l)) all

pub held-wrong : (rule : AccessRule) (found : Option ExtensionParts) → SaysNone false (SpellsAccess access_parts) found
    → SaysSome false (SpellsHeldAccess rule) found → ⊥
held-wrong rule found none k = let (xs, l, all) = held-told rule found k in none (Some (access_parts xs)) l
