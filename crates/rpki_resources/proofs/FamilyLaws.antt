-- Families of addresses, in order.
use Rattle.std.proofs.Common.{◌≡◌, ◌≢◌, ℕ, List, [], true, refl, sym, ap, ◌∙◌, subst}
use Rattle.rpki_der.specs.declared.error.DecodeError.{DecodeError}
use Rattle.rpki_der.specs.declared.error.ContentError.{ContentError}
use Rattle.rpki_der.specs.declared.error.DecodeError.TheVariants.{Content}
use Rattle.rpki_der.specs.TagName.{sequence}
use Rattle.rpki_der.specs.Reading.{Accepts, Refuses, Refusal, SpellsNothing}
use Rattle.rpki_der.specs.Parts.{SpellsBoth}
use Rattle.rpki_der.specs.FirstFault.FirstFault.{AtPart, Later}
use Rattle.rpki_der.proofs.ReadingLaws.{UnlessMemory-weaker}
use Rattle.rpki_der.proofs.ComposedLaws.{spelled-whole, all-read, nothing-after, nothing-whole}
use Rattle.rpki_der.proofs.EachLaws.{leaf-some}
use Rattle.rpki_der.proofs.PartsLaws.{Returned, Failed, first-of}
use Rattle.rpki_resources.specs.declared.family.AddressFamily.{AddressFamily}
use Rattle.rpki_resources.specs.declared.family.AddressFamily.TheVariants.{Ipv4, Ipv6}
use Rattle.rpki_resources.specs.declared.choice_view.ChoiceView.{ChoiceView}
use Rattle.rpki_resources.specs.declared.choice_view.ChoiceView.TheVariants.{Missing}
use Rattle.rpki_resources.specs.declared.ip_view.IpResourcesView.{IpResourcesView}
use Rattle.rpki_resources.specs.Extension.{IsFamily, family_parts}
use Rattle.rpki_resources.specs.Extension.{SpellsNamed, named_family, families, second_family}
use Rattle.rpki_resources.specs.Extension.{AreFamilies, ip_families}
use Rattle.rpki_resources.specs.Extension.AreFamilies.{OnlyV4, OnlyV6, BothFamilies}

-- ---- the name of a family

pub one-family : (f g : AddressFamily) (c : List ℕ) → IsFamily f c → IsFamily g c → g ≡ f
one-family Ipv4 Ipv4 c h k = refl
one-family Ipv6 Ipv6 c h k = refl
one-family Ipv4 Ipv6 c h k = let e = sym h ∙ k in absurd (cc)
one-family Ipv6 Ipv4 c h k = let e = sym h ∙ k in absurd (cc)

-- ---- the second family

abbrev pair : AddressFamily → ChoiceView → AddressFamily × ChoiceView
pair f v = (f, v)

families-differ : (v w : ChoiceView) → pair Ipv4 v ≡ pair Ipv6 w → ⊥
families-differ v w e = let n = ap (λ (x : AddressFamily × ChoiceView). x.0) e in cc

same-choice : (f g : AddressFamily) (v w : ChoiceView) → pair f v ≡ pair g w → v ≡ w
same-choice f g v w e = ap (λ (x : AddressFamily × ChoiceView). x.1) e

module _ (s : List ℕ) where
  pub no-second : (r : List ℕ) (e : DecodeError) → Refusal SpellsNamed named_family.fault s r e
      → Failed second_family.spells second_family.fault s e
  no-second r e h = (
    UnlessMemory-weaker e (λ none v k. nothing-whole SpellsNamed s none (Ipv6, v) k) h.refuses,
    AtPart h.refuses h.kind,
  )

  pub second-v6 : (r : List ℕ) (v : ChoiceView) → Accepts SpellsNamed s (Ipv6, v) r
      → Returned second_family.spells second_family.fault s r v
  second-v6 r v a = (
    λ end. let is = all-read SpellsNamed s (Ipv6, v) r a end in
        (is.0, λ w k. same-choice Ipv6 Ipv6 w v (is.1 (Ipv6, w) k)),
    λ some. (λ w k. nothing-after SpellsNamed s r (Ipv6, v) a some (Ipv6, w) k, Later (Ipv6, v) r a (some, refl)),
  )

  pub second-v4 : (r : List ℕ) (v : ChoiceView) (x : ContentError) → Accepts SpellsNamed s (Ipv4, v) r
      → Failed second_family.spells second_family.fault s (Content x)
  second-v4 r v x a = (
    λ w k. families-differ v w
        (sym (a.only (Ipv6, w) [] (spelled-whole SpellsNamed s (Ipv6, w) k)).0),
    Later (Ipv4, v) r a tt,
  )

-- ---- both

module _ (s : List ℕ) where
  pub no-families : (r : List ℕ) (e : DecodeError) → Refusal SpellsNamed named_family.fault s r e
      → Failed AreFamilies ip_families.fault s e
  no-families r e h = (UnlessMemory-weaker e nothing h.refuses, AtPart h.refuses h.kind) where
    nothing : Refuses SpellsNamed s → SpellsNothing AreFamilies s
    nothing none x (OnlyV4 v is k) = nothing-whole SpellsNamed s none (Ipv4, v) k
    nothing none x (OnlyV6 v is k) = nothing-whole SpellsNamed s none (Ipv6, v) k
    nothing none x (BothFamilies v w is k) = none (Ipv4, v) k.second (first-of k)

  module _ (m : List ℕ) (v : ChoiceView) where
    -- IP version 6 is first
    pub only-v6 : Accepts SpellsNamed s (Ipv6, v) m → Returned AreFamilies ip_families.fault s m (families Missing v)
    only-v6 one = (
      λ end. (OnlyV6 v refl (all-read SpellsNamed s (Ipv6, v) m one end).0, unique),
      λ some. (nothing some, Later (Ipv6, v) m one (some, refl)),
    ) where
      whole : (x : AddressFamily × ChoiceView) → SpellsNamed x s → (x ≡ pair Ipv6 v) × ([] ≡ m)
      whole x k = one.only x [] (spelled-whole SpellsNamed s x k)

      unique : (x : IpResourcesView) → AreFamilies x s → x ≡ families Missing v
      unique x (OnlyV4 w is k) = absurd (families-differ w v (whole (Ipv4, w) k).0)
      unique x (OnlyV6 w is k) = is ∙ ap (λ (y : ChoiceView). families Missing y)
          (same-choice Ipv6 Ipv6 w v (whole (Ipv6, w) k).0)
      unique x (BothFamilies w u is k) = absurd (families-differ w v (one.only (Ipv4, w) k.second (first-of k)).0)

      nothing : m ≢ [] → (x : IpResourcesView) → AreFamilies x s → ⊥
      nothing some x (OnlyV4 w is k) = some (sym (whole (Ipv4, w) k).1)
      nothing some x (OnlyV6 w is k) = some (sym (whole (Ipv6, w) k).1)
      nothing some x (BothFamilies w u is k) = families-differ w v (one.only (Ipv4, w) k.second (first-of k)).0

    -- IP version 4 is first
    module _ (one : Accepts SpellsNamed s (Ipv4, v) m) where
      whole-v4 : (x : AddressFamily × ChoiceView) → SpellsNamed x s → (x ≡ pair Ipv4 v) × ([] ≡ m)
      whole-v4 x k = one.only x [] (spelled-whole SpellsNamed s x k)

      both-v4 : (w u : ChoiceView) → SpellsBoth SpellsNamed SpellsNamed (Ipv4, w) (Ipv6, u) s
          → (w ≡ v) × second_family.spells u m
      both-v4 w u k =
          let is = one.only (Ipv4, w) k.second (first-of k) in
          (same-choice Ipv4 Ipv4 w v is.0, subst (λ (q : List ℕ). SpellsNamed (Ipv6, u) q) is.1 k.two)

      pub only-v4 : m ≡ [] → Returned AreFamilies ip_families.fault s m (families v Missing)
      only-v4 end = (
        λ z. (OnlyV4 v refl (all-read SpellsNamed s (Ipv4, v) m one end).0, unique),
        λ some. absurd (some end),
      ) where
        unique : (x : IpResourcesView) → AreFamilies x s → x ≡ families v Missing
        unique x (OnlyV4 w is k) = is ∙ ap (λ (y : ChoiceView). families y Missing)
            (same-choice Ipv4 Ipv4 w v (whole-v4 (Ipv4, w) k).0)
        unique x (OnlyV6 w is k) = absurd (families-differ v w (sym (whole-v4 (Ipv6, w) k).0))
        unique x (BothFamilies w u is k) = absurd
            (leaf-some sequence true family_parts.spells (Ipv6, u)
            (subst (λ (q : List ℕ). SpellsNamed (Ipv6, u) q) end (both-v4 w u k).1))

      nothing-second : m ≢ [] → SpellsNothing second_family.spells m → SpellsNothing AreFamilies s
      nothing-second some none x (OnlyV4 w is k) = some (sym (whole-v4 (Ipv4, w) k).1)
      nothing-second some none x (OnlyV6 w is k) = some (sym (whole-v4 (Ipv6, w) k).1)
      nothing-second some none x (BothFamilies w u is k) = none u (both-v4 w u k).1

      pub second-refused : (e : DecodeError) → m ≢ [] → Failed second_family.spells second_family.fault m e
          → Failed AreFamilies ip_families.fault s e
      second-refused e some h = (UnlessMemory-weaker e (nothing-second some) h.0, Later (Ipv4, v) m one (some, h.1))

      pub second-read : (r : List ℕ) (u : ChoiceView) → m ≢ [] → Returned second_family.spells second_family.fault m r u
          → Returned AreFamilies ip_families.fault s r (families v u)
      second-read r u some h = (
        λ end.
            let is = h.0 end in (
              BothFamilies v u refl
                  (record {
                    first = one.spells.front;
                    second = m;
                    parts = one.spells.parts;
                    one =
                        one.spells.spelled;
                    two = is.0;
                  }),
              unique is.1,
            ),
        λ more. let k = h.1 more in (nothing-second some k.0, Later (Ipv4, v) m one (some, k.1)),
      ) where
        unique : ((w : ChoiceView) → second_family.spells w m → w ≡ u) → (x : IpResourcesView) → AreFamilies x s
            → x ≡ families v u
        unique only x (OnlyV4 w is k) = absurd (some (sym (whole-v4 (Ipv4, w) k).1))
        unique only x (OnlyV6 w is k) = absurd (some (sym (whole-v4 (Ipv6, w) k).1))
        unique only x (BothFamilies w y is k) =
            let b = both-v4 w y k in
            is ∙ ap (λ (z : ChoiceView). families z y) b.0 ∙ ap (λ (z : ChoiceView). families v z) (only y b.1)

-- a family that is known to be another's name
pub as-family : (s r : List ℕ) (f g : AddressFamily) (v : ChoiceView) → f ≡ g → Accepts SpellsNamed s (f, v) r
    → Accepts SpellsNamed s (g, v) r
as-family s r f g v is a = subst (λ (h : AddressFamily). Accepts SpellsNamed s (h, v) r) is a
