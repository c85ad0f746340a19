-- Where certificates say that a list is, and a folder; and whether the one is in the other.
use Rattle.std.proofs.Common.{◌≡◌, ◌≢◌, ◌∙◌, ◌↔◌, ℕ, Bool, true, false, List, ◌∷◌, Option, Some, None, Result, Ok, Err}
use Rattle.std.proofs.Common.{[], IsTrue, refl, sym, ap, subst}
use Rattle.std.specs.Prelude.{if◌then◌else◌}
use Rattle.std.specs.Option.{is_some}
use Rattle.std.proofs.lemmas.Bool.{false≢true}
use Rattle.rpki_der.specs.Prelude.{Accepts, Refuses, Spells, SpellsNothing, SpellsSome}
use Rattle.rpki_text.specs.declared.uri.error.Error.{Error}
use Rattle.rpki_text.specs.RsyncText.{IsCut, RsyncUri, relative, rsync_refusal, uri_of}
use Rattle.rpki_text.proofs.JoinLaws.{relative-joined-any}
use Rattle.rpki.specs.ExtensionValue.{ExtensionParts}
use Rattle.rpki_x509.specs.InPlace.{GivesAll}
use Rattle.rpki_cert.specs.Access.{SaysUri, SpellsPoints, SpellsUri, Through, ca_repository, first_rsync, flat}
use Rattle.rpki_cert.specs.AccessDescription.{points}
use Rattle.rpki_cert.specs.Cert.{CertParts, SpellsCert}
use Rattle.rpki_cert.specs.GeneralName.{SpellsName}
use Rattle.rpki_cert.specs.Known.{Says, SaysNone}
use Rattle.rpki_cert.proofs.BelowLaws.{said-passes}
use Rattle.rpki_cert.proofs.KnownLaws.{no-value, only-none, only-value}
use Rattle.rpki_c.specs.declared.authority.Authority.{Authority}
use Rattle.rpki_c.specs.ListName.{IsAt, IsFileIn, IsPlace, NamesFile, NamesList, Publishes}
use Rattle.rpki_c.proofs.OneCertLaws.{one-cert}

-- ---- general names that are URIs

module _ (s : List ℕ) where
  as-name : (v : Option (List ℕ)) (q : List ℕ) → (k : Spells SpellsUri s v q)
      → Spells SpellsName s (Some k.spelled.0) q
  as-name v q k = record { front = k.front; parts = k.parts; spelled = k.spelled.1 }

  pub uri-accepted : (r t : List ℕ) → Accepts SpellsName s (Some t) r → Accepts SpellsUri s (Some t) r
  uri-accepted r t a = record {
    spells = record { front = a.spells.front; parts = a.spells.parts; spelled = (t, a.spells.spelled, refl) };
    only = λ v q k. let e = a.only (Some k.spelled.0) q (as-name v q k) in (k.spelled.2 ∙ e.0, e.1);
  }

  pub other-name : (r : List ℕ) → Accepts SpellsName s None r → Refuses SpellsUri s
  other-name r a v q k = let e = (a.only (Some k.spelled.0) q (as-name v q k)).0 in absurd (cc)

  pub no-name : Refuses SpellsName s → Refuses SpellsUri s
  no-name none v q k = none (Some k.spelled.0) q (as-name v q k)

-- ---- distribution points

abbrev pub Names : Option (List ℕ) → List ℕ → Type 0
Names = Through first_rsync (SpellsSome SpellsUri)

points-of : (s n : List ℕ) (u : Option (List ℕ)) → points.spells n s → Names u n → SpellsPoints u s
points-of s n u h g =
    let one = h.spelled in
    let name = one.spelled in
    record {
      contents = h.contents;
      value = h.value;
      spelled = record {
        contents = one.contents;
        value = one.value;
        spelled = record {
          contents = name.contents;
          value = name.value;
          spelled = record { contents = n; value = name.spelled; spelled = g };
        };
      };
    }

points-back : (s : List ℕ) (u : Option (List ℕ)) → SpellsPoints u s
    → (n : List ℕ) × points.spells n s × Names u n
points-back s u h =
    let one = h.spelled in
    let name = one.spelled in
    let full = name.spelled in (
      full.contents,
      record {
        contents = h.contents;
        value = h.value;
        spelled = record {
          contents = one.contents;
          value = one.value;
          spelled = record { contents = name.contents; value = name.value; spelled = full.value };
        };
      },
      full.spelled,
    )

-- what a reader says of the names it says of the points
pub points-given : {X E : Type 0} (view : X → Option (List ℕ)) (s n : List ℕ)
    → points.spells n s × ((m : List ℕ) → points.spells m s → m ≡ n) → (r : Result X E) → GivesAll view Names n r
    → GivesAll view SpellsPoints s r
points-given view s n a (Ok x) g = (
  points-of s n (view x) a.0 g.0,
  λ w k.
      let b = points-back s w k in
      g.1 w (subst (λ (m : List ℕ). Names w m) (a.1 b.0 b.1) b.2),
)
points-given view s n a (Err e) none = λ w k.
    let b = points-back s w k in
    none w (subst (λ (m : List ℕ). Names w m) (a.1 b.0 b.1) b.2)

pub points-none : (s : List ℕ) → SpellsNothing points.spells s → SpellsNothing SpellsPoints s
points-none s none w k = let b = points-back s w k in none b.0 b.1

-- ---- what an extension says of a place

module _ (G : Option (List ℕ) → List ℕ → Type 0) (found : Option ExtensionParts) where
  abbrev IsSaid : Option (List ℕ) → Type 0
  IsSaid = IsPlace (λ uri. SaysUri G found (Some uri))

  said : (u : Option (List ℕ)) → SaysUri G found u → IsSaid u
  said u h uri = (
    λ k. h.2 ∙ ap flat (sym (h.1.1 k.0 k.1.0)) ∙ sym k.2,
    λ e. (h.0, h.1, sym e ∙ h.2),
  )

  unsaid : SaysNone {V = Option (List ℕ)} false G found → IsSaid None
  unsaid none uri = (λ k. absurd (none k.0 k.1.0), λ e. absurd (cc))

  pub none-there : found ≡ None → IsSaid None
  none-there e = said None (None, only-none false G found e, refl)

  module _ (x : ExtensionParts) (is : found ≡ Some x) where
    -- it is critical
    pub critical-there : x.critical ≡ true → IsSaid None
    critical-there critical = unsaid other where
      other : (v : Option (Option (List ℕ))) → Says false G found v → ⊥
      other None h = absurd (cc)
      other (Some v) h =
          let two : Some x ≡ Some h.0 = sym is ∙ h.1 in
          let same : x ≡ h.0 = cc in
          let not : true ≡ false = sym critical ∙ ap (λ (y : ExtensionParts). y.critical) same ∙ h.2 in
          absurd (cc)

    -- it isn't, and its octets say this, or are no such value
    pub place-there : x.critical ≡ false → (u : Option (List ℕ))
        → G u x.content × ((w : Option (List ℕ)) → G w x.content → w ≡ u) → IsSaid u
    place-there critical u g = said u (Some u, only-value false G found x u (is, critical) g, refl)

    pub nothing-there : x.critical ≡ false → SpellsNothing G x.content → IsSaid None
    nothing-there critical none = unsaid (no-value false G found x (is, critical) none)

-- ---- a file in a folder

module _ (place folder name : List ℕ) (m n : ℕ) (cut : IsCut folder m n) where
  way : IsFileIn folder name place → relative (uri_of place) (uri_of folder) ≡ Some name
  way h =
      ap (λ (u : RsyncUri). relative u (uri_of folder)) h.same
      ∙ relative-joined-any folder m n cut name h.short

  pub no-way : relative (uri_of place) (uri_of folder) ≡ None → IsTrue false ↔ IsFileIn folder name place
  no-way none = (λ t. absurd (false≢true t), λ h. let e : None ≡ Some name = sym none ∙ way h in absurd (cc))

  pub other-way : (p : List ℕ) → relative (uri_of place) (uri_of folder) ≡ Some p → p ≢ name
      → IsTrue false ↔ IsFileIn folder name place
  other-way p is other = (
    λ t. absurd (false≢true t),
    λ h.
        let e : Some p ≡ Some name = sym is ∙ way h in
        let same : p ≡ name = cc in
        absurd (other same),
  )

-- ---- the first URI of a list is one

one-passes : (text u : List ℕ) (rest : Option (List ℕ)) → (rest ≡ Some u → rsync_refusal u ≡ None)
    → (o : Option Error) → rsync_refusal text ≡ o → (if is_some o then rest else Some text) ≡ Some u
    → rsync_refusal u ≡ None
one-passes text u rest others None is e = let same : text ≡ u = cc in ap rsync_refusal (sym same) ∙ is
one-passes text u rest others (Some x) is e = others e

first-passes : (xs : List (Option (List ℕ))) (u : List ℕ) → first_rsync xs ≡ Some u → rsync_refusal u ≡ None
first-passes [] u e = cc
first-passes (None ∷ xs) u e = first-passes xs u e
first-passes (Some text ∷ xs) u e =
    one-passes text u (first_rsync xs) (λ k. first-passes xs u k) (rsync_refusal text) refl e

points-pass : (found : Option ExtensionParts) (u : List ℕ) → SaysUri SpellsPoints found (Some u)
    → rsync_refusal u ≡ None
points-pass found u (None, h, e) = cc
points-pass found u (Some v, h, e) =
    let names = h.0.3.spelled.spelled.spelled.spelled in
    first-passes names.0 u (sym names.2 ∙ sym e)

-- ---- both places, of two certificates

module _ (by : Authority) (x y : CertParts) (name : List ℕ) (above : SpellsCert y by.certificate.octets.now)
    (place folder : Option (List ℕ)) (list : IsPlace (NamesList x) place) (home : IsPlace (Publishes y) folder) where
  pub names-at : IsAt place folder name → NamesFile by x name
  names-at h = record {
    issuer = y;
    above = above;
    folder = h.home;
    publishes = (home h.home).1 h.lies;
    place = h.uri;
    names = (list h.uri).1 h.stands;
    is = h.file;
  }

  pub at-names : NamesFile by x name → IsAt place folder name
  at-names k =
      let same = one-cert by.certificate.octets.now k.issuer y k.above above in
      let publishes : Publishes y k.folder = subst (λ (z : CertParts). Publishes z k.folder) same k.publishes in
      record {
        uri = k.place;
        stands = (list k.place).0 k.names;
        is_uri = points-pass _ k.place k.names;
        home = k.folder;
        lies = (home k.folder).0 publishes;
        is_home = said-passes ca_repository _ k.folder publishes;
        file = k.is;
      }
