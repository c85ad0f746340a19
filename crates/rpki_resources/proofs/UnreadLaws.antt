-- Resources in place whose blocks were not read yet: what the values around their lists are.
use Rattle.std.proofs.Common.{◌≡◌, ◌≢◌, ◌⊎◌, ◌↔◌, inl, inr, ℕ, List, [], ◌∷◌, length, Bool, Option, Some, None, true}
use Rattle.std.proofs.Common.{false, refl, sym, ◌∙◌, subst}
use Rattle.std.specs.Prelude.{IsTrue, IfSome, IfNone}
use Rattle.rpki_der.specs.declared.error.DecodeError.{DecodeError}
use Rattle.rpki_der.specs.declared.cursor.Constructed.{Constructed}
use Rattle.rpki_der.specs.Cursor.{left}
use Rattle.rpki_der.specs.TagName.{TagName, null, octet_string, sequence}
use Rattle.rpki_der.specs.Leaves.{IsNull}
use Rattle.rpki_der.specs.Reading.{Spells, Accepts, Refuses, Refusal, SpellsNothing}
use Rattle.rpki_der.specs.Values.{SpellsContents, SpellsLeaf, IsContentsFault, IsLeafFault, HasTag}
use Rattle.rpki_der.proofs.InsideLaws.{unless-memory}
use Rattle.rpki_der.proofs.LeavesLaws.{contents-no-memory, leaf-no-memory}
use Rattle.rpki_der.proofs.ComposedLaws.{spelled-whole, all-read, nothing-after, nothing-whole}
use Rattle.rpki_der.proofs.EachLaws.{leaf-some}
use Rattle.rpki_der.proofs.PartsLaws.{first-of}
use Rattle.rpki_resources.specs.declared.block.Block.{Block}
use Rattle.rpki_resources.specs.declared.kind.ResourceKind.{ResourceKind}
use Rattle.rpki_resources.specs.declared.kind.ResourceKind.TheVariants.{Addresses, AsNumbers}
use Rattle.rpki_resources.specs.declared.family.AddressFamily.{AddressFamily}
use Rattle.rpki_resources.specs.declared.family.AddressFamily.TheVariants.{Ipv4, Ipv6}
use Rattle.rpki_resources.specs.declared.choice.ResourcesChoice.{ResourcesChoice}
use Rattle.rpki_resources.specs.declared.choice.ResourcesChoice.TheVariants.{Missing as NoneKept}
use Rattle.rpki_resources.specs.declared.choice.ResourcesChoice.TheVariants.{Inherit as InheritKept}
use Rattle.rpki_resources.specs.declared.choice.ResourcesChoice.TheVariants.{Blocks as BlocksKept}
use Rattle.rpki_resources.specs.declared.choice_view.ChoiceView.{ChoiceView}
use Rattle.rpki_resources.specs.declared.choice_view.ChoiceView.TheVariants.{Missing, Inherit, Blocks}
use Rattle.rpki_resources.specs.declared.ip_view.IpResourcesView.{IpResourcesView}
use Rattle.rpki_resources.specs.declared.resources.IpResources.{IpResources}
use Rattle.rpki_resources.specs.declared.resources.AsResources.{AsResources}
use Rattle.rpki_resources.specs.declared.frames.Unread.{Unread}
use Rattle.rpki_resources.specs.declared.frames.Unread.TheVariants.{Missing as NothingFound, Inherit as InheritFound}
use Rattle.rpki_resources.specs.declared.frames.Unread.TheVariants.{Listed}
use Rattle.rpki_resources.specs.declared.frames.UnreadIp.{UnreadIp}
use Rattle.rpki_der.specs.Format.{SpellsFor}
use Rattle.rpki_resources.specs.Listed.{AreBlocks}
use Rattle.rpki_resources.specs.InPlace.{Octets, octets_of, Holds, IsListed}
use Rattle.rpki_resources.specs.Extension.{inherit, listed_blocks, SpellsChoice, IsFamily, family_name}
use Rattle.rpki_resources.specs.Extension.{family_parts, SpellsNamed, families, AreFamilies}
use Rattle.rpki_resources.specs.Extension.AreFamilies.{OnlyV4, OnlyV6, BothFamilies}
use Rattle.rpki_resources.specs.Blocks.{IsSubset, AreCanonical}
use Rattle.rpki_resources.specs.Kept.{IsChoiceOf, AreIpResourcesOf, SpellsIp, SpellsAs}
use Rattle.rpki_resources.specs.Compared.{ArePart, AreIpWithin, AreAsWithin}
use Rattle.rpki_resources.specs.Unread.{IsUnread, AreUnreadIp, IsAround, SpellsKept, AreNamedKept, SpellsNamedKept}
use Rattle.rpki_resources.specs.Unread.{AreFamiliesKept, AreWithin}
use Rattle.rpki_resources.proofs.BlocksLaws.{none-outer}
use Rattle.rpki_resources.proofs.KeptLaws.{ip_of, as_of}
use Rattle.rpki_resources.proofs.ExtensionLaws.{inherit-tag, listed-tag}

-- ---- a value, and its contents

module _ (t : TagName) (s : List ℕ) where
  pub around : (c r : List ℕ) → Accepts (SpellsContents t true) s c r → r ≡ [] → IsAround t s c
  around c r a end = all-read (SpellsContents t true) s c r a end

  pub more-behind : (c r : List ℕ) → Accepts (SpellsContents t true) s c r → r ≢ []
      → SpellsNothing (SpellsContents t true) s
  more-behind c r a some = nothing-after (SpellsContents t true) s r c a some

  pub not-around : (r : List ℕ) (e : DecodeError) → Refusal (SpellsContents t true) (IsContentsFault t true) s r e
      → Refuses (SpellsContents t true) s
  not-around r e h = unless-memory e (contents-no-memory t true s e h.kind) h.refuses

  module _ {V : Type 0} (C : V → List ℕ → Type 0) where
    pub leaf-in : (c : List ℕ) → IsAround t s c → (v : V) → C v c → SpellsLeaf t true C v s
    leaf-in c h v k = record { contents = c; value = h.0; spelled = k }

    pub leaf-out : (c : List ℕ) → IsAround t s c → (v : V) → SpellsLeaf t true C v s → C v c
    leaf-out c h v l = subst (C v) (h.1 l.contents l.value) l.spelled

    pub leaf-none : SpellsNothing (SpellsContents t true) s → SpellsNothing (SpellsLeaf t true C) s
    leaf-none none v l = none l.contents l.value

  -- of a value that stands for what is spelled
  module _ {V O : Type 0} (C : O → List ℕ → Type 0) (R : V → O → Type 0) where
    pub for-around : (c : List ℕ) → IsAround t s c → (v : V) → SpellsFor (SpellsLeaf t true C) R v s ↔ SpellsFor C R v c
    for-around c h v = (
      λ k. record { value = k.value; spelled = leaf-out C c h k.value k.spelled; stands = k.stands },
      λ k. record { value = k.value; spelled = leaf-in C c h k.value k.spelled; stands = k.stands },
    )

-- ---- a choice

kept-inherit : (kind : ResourceKind) (v : ResourcesChoice) → IsChoiceOf v Inherit → IsUnread kind InheritFound v
kept-inherit kind NoneKept h = absurd h
kept-inherit kind InheritKept h = tt
kept-inherit kind (BlocksKept bs) h = absurd h

inherit-kept : (kind : ResourceKind) (v : ResourcesChoice) → IsUnread kind InheritFound v → IsChoiceOf v Inherit
inherit-kept kind NoneKept h = absurd h
inherit-kept kind InheritKept h = tt
inherit-kept kind (BlocksKept bs) h = absurd h

pub kept-missing : (kind : ResourceKind) (v : ResourcesChoice) → IsChoiceOf v Missing → IsUnread kind NothingFound v
kept-missing kind NoneKept h = tt
kept-missing kind InheritKept h = absurd h
kept-missing kind (BlocksKept bs) h = absurd h

pub missing-kept : (kind : ResourceKind) (v : ResourcesChoice) → IsUnread kind NothingFound v → IsChoiceOf v Missing
missing-kept kind NoneKept h = tt
missing-kept kind InheritKept h = absurd h
missing-kept kind (BlocksKept bs) h = absurd h

module _ (kind : ResourceKind) (s : List ℕ) where
  null-only : HasTag null s → (v : ResourcesChoice) → SpellsKept kind v s
      → IsChoiceOf v Inherit × inherit.spells Inherit s
  null-only tag v k = elim k.spelled [
    | inl g ↦ (subst (IsChoiceOf v) g.stands k.stands, record { value = g.value; spelled = g.spelled; stands = refl })
    | inr g ↦ absurd (listed-tag kind s k.value [] (spelled-whole (listed_blocks kind).spells s k.value g) tag)
  ]

  pub is-inherit : HasTag null s → (r : List ℕ) → Accepts (SpellsLeaf null false IsNull) s tt r → r ≡ []
      → (v : ResourcesChoice) → SpellsKept kind v s ↔ IsUnread kind InheritFound v
  is-inherit tag r a end v = (
    λ k. kept-inherit kind v (null-only tag v k).0,
    λ u. record {
      value = Inherit;
      spelled = inl
          (record { value = tt; spelled = (all-read (SpellsLeaf null false IsNull) s tt r a end).0; stands = refl });
      stands = inherit-kept kind v u;
    },
  )

  pub behind-null : HasTag null s → (r : List ℕ) → Accepts (SpellsLeaf null false IsNull) s tt r → r ≢ []
      → SpellsNothing (SpellsKept kind) s
  behind-null tag r a some v k = let g = (null-only tag v k).1 in nothing-after (SpellsLeaf null false IsNull) s r tt a
      some g.value g.spelled

  pub not-null : HasTag null s → (r : List ℕ) (e : DecodeError)
      → Refusal (SpellsLeaf null false IsNull) (IsLeafFault null false IsNull) s r e → SpellsNothing (SpellsKept kind) s
  not-null tag r e h v k =
      let g = (null-only tag v k).1 in
      let none = unless-memory e (leaf-no-memory null false IsNull s e h.kind) h.refuses in
      nothing-whole (SpellsLeaf null false IsNull) s none g.value g.spelled

  list-only : (HasTag null s → ⊥) → (v : ResourcesChoice) → SpellsKept kind v s
      → (o : Octets) × SpellsLeaf sequence true (IsListed kind) o s × IsChoiceOf v (Blocks o)
  list-only untagged v k = elim k.spelled [
    | inl g ↦ absurd (untagged (inherit-tag s k.value [] (spelled-whole inherit.spells s k.value g)))
    | inr g ↦ (g.value, g.spelled, subst (IsChoiceOf v) g.stands k.stands)
  ]

  pub not-list : (HasTag null s → ⊥) → SpellsNothing (SpellsContents sequence true) s
      → SpellsNothing (SpellsKept kind) s
  not-list untagged none v k = let l = list-only untagged v k in leaf-none sequence s (IsListed kind) none l.0 l.1

  module _ (untagged : HasTag null s → ⊥) (c : Constructed) (h : IsAround sequence s (left c)) where
    held-blocks : (o : Octets) (bs : List Block) → IsListed kind o (left c) → Holds o bs → AreBlocks kind bs (left c)
    held-blocks o bs l k =
        subst (λ (m : List ℕ). AreBlocks kind bs m) l.octets
        (subst (λ (j : ResourceKind). AreBlocks j bs o.octets) l.kind_is k.blocks)

    kept-list : (v : ResourcesChoice) (o : Octets) → IsListed kind o (left c) → IsChoiceOf v (Blocks o)
        → IsUnread kind (Listed c) v
    kept-list NoneKept o l k = absurd k
    kept-list InheritKept o l k = absurd k
    kept-list (BlocksKept bs) o l k = held-blocks o bs l k

    list-kept : (v : ResourcesChoice) → IsUnread kind (Listed c) v → SpellsKept kind v s
    list-kept NoneKept u = absurd u
    list-kept InheritKept u = absurd u
    list-kept (BlocksKept bs) u =
        let o : Octets = octets_of kind (left c) (length bs) in
        let k : Holds o bs = record { blocks = u; count = refl } in
        let l : IsListed kind o (left c) = record { kind_is = refl; octets = refl; held = (bs, k) } in
        record {
          value = Blocks o;
          spelled = inr
              (record { value = o; spelled = leaf-in sequence s (IsListed kind) (left c) h o l; stands = refl });
          stands =
              k;
        }

    pub is-list : (v : ResourcesChoice) → SpellsKept kind v s ↔ IsUnread kind (Listed c) v
    is-list v = (
      λ k. let l = list-only untagged v k in kept-list v l.0 (leaf-out sequence s (IsListed kind) (left c) h l.0 l.1)
          l.2,
      λ u. list-kept v u,
    )

-- a list that was found
unlist : (kind : ResourceKind) (c : Constructed) (v : ResourcesChoice) → IsUnread kind (Listed c) v
    → (bs : List Block) × AreBlocks kind bs (left c)
unlist kind c NoneKept u = absurd u
unlist kind c InheritKept u = absurd u
unlist kind c (BlocksKept bs) u = (bs, u)

pub listed-there : (kind : ResourceKind) (u : Unread) (c : Constructed) → u ≡ Listed c → (b : Bool)
    → IsTrue b ↔ ((bs : List Block) × AreBlocks kind bs (left c))
    → IsTrue b ↔ ((v : ResourcesChoice) × IsUnread kind u v)
listed-there kind u c e b is = (
  λ z. let k = is.0 z in (BlocksKept k.0, subst (λ (x : Unread). IsUnread kind x (BlocksKept k.0)) (sym e) k.1),
  λ z. is.1 (unlist kind c z.0 (subst (λ (x : Unread). IsUnread kind x z.0) e z.1)),
)

-- ---- a family

module _ (s : List ℕ) where
  pub no-name : (r : List ℕ) (e : DecodeError) → Refusal family_name.spells family_name.fault s r e
      → (f : AddressFamily) → SpellsNothing (AreNamedKept f) s
  no-name r e h f v k = unless-memory e (leaf-no-memory octet_string false IsFamily s e h.kind) h.refuses f k.1.second
      (first-of k.1)

  module _ (f : AddressFamily) (m : List ℕ) (one : Accepts family_name.spells s f m) where
    named-out : (g : AddressFamily) (v : ResourcesChoice) → AreNamedKept g v s → (f ≡ g) × SpellsKept (Addresses f) v m
    named-out g v k =
        let is = one.only g k.1.second (first-of k.1) in
        let two : SpellsChoice (Addresses f) k.0 k.1.second =
        subst (λ (h : AddressFamily). SpellsChoice (Addresses h) k.0 k.1.second) is.0 k.1.two in (
          sym is.0,
          record {
            value = k.0;
            spelled =
                subst (λ (q : List ℕ). SpellsChoice (Addresses f) k.0 q) is.1 two;
            stands = k.2;
          },
        )

    named-in : (v : ResourcesChoice) → SpellsKept (Addresses f) v m → AreNamedKept f v s
    named-in v k = (
      k.value,
      record {
        first = one.spells.front;
        second = m;
        parts = one.spells.parts;
        one = one.spells.spelled;
        two =
            k.spelled;
      },
      k.stands,
    )

    pub is-named : (u : Unread) → ((v : ResourcesChoice) → SpellsKept (Addresses f) v m ↔ IsUnread (Addresses f) u v)
        → (g : AddressFamily) (v : ResourcesChoice)
        → AreNamedKept g v s ↔ ((f ≡ g) × IsUnread (Addresses f) u v)
    is-named u is g v = (
      λ k. let n = named-out g v k in (n.0, (is v).0 n.1),
      λ k. subst (λ (h : AddressFamily). AreNamedKept h v s) k.0 (named-in v ((is v).1 k.1)),
    )

    pub no-choice : SpellsNothing (SpellsKept (Addresses f)) m → (g : AddressFamily) → SpellsNothing (AreNamedKept g) s
    no-choice none g v k = none v (named-out g v k).1

-- what a family that was found is
abbrev pub IsFound : List ℕ → AddressFamily → Unread → Type 0
IsFound c f u = (g : AddressFamily) (v : ResourcesChoice) → AreNamedKept g v c ↔ ((f ≡ g) × IsUnread (Addresses f) u v)

v4-v6 : Ipv4 ≡ Ipv6 → ⊥
v4-v6 e = cc

-- ---- the second family

module _ (s : List ℕ) where
  module _ (c : List ℕ) (h : IsAround sequence s c) where
    second-out : (f : AddressFamily) (v : ResourcesChoice) → SpellsNamedKept f v s → AreNamedKept f v c
    second-out f v k = (k.0, leaf-out sequence s family_parts.spells c h (f, k.0) k.1, k.2)

    pub no-second-named : ((f : AddressFamily) → SpellsNothing (AreNamedKept f) c) → (f : AddressFamily)
        → SpellsNothing (SpellsNamedKept f) s
    no-second-named none f v k = none f v (second-out f v k)

    module _ (f : AddressFamily) (u : Unread) (is : IsFound c f u) where
      pub second-v6 : f ≡ Ipv6 → (v : ResourcesChoice) → SpellsNamedKept Ipv6 v s ↔ IsUnread (Addresses Ipv6) u v
      second-v6 six v = (
        λ k. subst (λ (g : AddressFamily). IsUnread (Addresses g) u v) six ((is Ipv6 v).0 (second-out Ipv6 v k)).1,
        λ l.
            let n = (is Ipv6 v).1 (six, subst (λ (g : AddressFamily). IsUnread (Addresses g) u v) (sym six) l) in
            (n.0, leaf-in sequence s family_parts.spells c h (Ipv6, n.0) n.1, n.2),
      )

      pub second-v4 : f ≡ Ipv4 → SpellsNothing (SpellsNamedKept Ipv6) s
      second-v4 four v k = v4-v6 (sym four ∙ ((is Ipv6 v).0 (second-out Ipv6 v k)).0)

-- ---- both

module _ (s n m : List ℕ) where
  pub no-first-value : Refuses (SpellsContents sequence true) s → SpellsNothing AreFamiliesKept s
  no-first-value none v k = step k.value k.spelled where
    step : (x : IpResourcesView) → AreFamilies x s → ⊥
    step x (OnlyV4 w is l) = leaf-none sequence s family_parts.spells
        (nothing-whole (SpellsContents sequence true) s none) (Ipv4, w) l
    step x (OnlyV6 w is l) = leaf-none sequence s family_parts.spells
        (nothing-whole (SpellsContents sequence true) s none) (Ipv6, w) l
    step x (BothFamilies w y is l) = none l.one.contents l.second
        (record { front = l.first; parts = l.parts; spelled = l.one.value })

  module _ (a : Accepts (SpellsContents sequence true) s n m) where
    -- what is in front, and what follows it
    in-front : (x : AddressFamily × ChoiceView) (q : List ℕ) → Spells SpellsNamed s x q
        → (q ≡ m) × family_parts.spells x n
    in-front x q h =
        let is = a.only h.spelled.contents q (record { front = h.front; parts = h.parts; spelled = h.spelled.value }) in
        (is.1, subst (family_parts.spells x) is.0 h.spelled.spelled)

    to-front : (x : AddressFamily × ChoiceView) → family_parts.spells x n → SpellsNamed x a.spells.front
    to-front x h = record { contents = n; value = a.spells.spelled; spelled = h }

    to-whole : m ≡ [] → (x : AddressFamily × ChoiceView) → family_parts.spells x n → SpellsNamed x s
    to-whole end x h = leaf-in sequence s family_parts.spells n (around sequence s n m a end) x h

    whole : (x : AddressFamily × ChoiceView) → SpellsNamed x s → ([] ≡ m) × family_parts.spells x n
    whole x h = in-front x [] (spelled-whole SpellsNamed s x h)

    -- the resources are those of IP version 4 alone, of IP version 6 alone, or of both
    abbrev Alone4 : IpResources → Type 0
    Alone4 v = (m ≡ []) × AreNamedKept Ipv4 v.v4 n × IsChoiceOf v.v6 Missing

    abbrev Alone6 : IpResources → Type 0
    Alone6 v = (m ≡ []) × AreNamedKept Ipv6 v.v6 n × IsChoiceOf v.v4 Missing

    abbrev Both : IpResources → Type 0
    Both v = AreNamedKept Ipv4 v.v4 n × SpellsNamedKept Ipv6 v.v6 m

    apart : (v : IpResources) → AreFamiliesKept v s → Alone4 v ⊎ Alone6 v ⊎ Both v
    apart v k = step k.value k.spelled k.stands where
      step : (x : IpResourcesView) → AreFamilies x s → AreIpResourcesOf v x → Alone4 v ⊎ Alone6 v ⊎ Both v
      step x (OnlyV4 w is l) h =
          let j = subst (AreIpResourcesOf v) is h in
          let p = whole (Ipv4, w) l in
          inl (sym p.0, (w, p.1, j.0), j.1)
      step x (OnlyV6 w is l) h =
          let j = subst (AreIpResourcesOf v) is h in
          let p = whole (Ipv6, w) l in
          inr (inl (sym p.0, (w, p.1, j.1), j.0))
      step x (BothFamilies w y is l) h =
          let j = subst (AreIpResourcesOf v) is h in
          let p = in-front (Ipv4, w) l.second (first-of l) in
          inr (inr ((w, p.1, j.0), (y, subst (SpellsNamed (Ipv6, y)) p.0 l.two, j.1)))

    from-alone4 : (v : IpResources) → Alone4 v → AreFamiliesKept v s
    from-alone4 v h = record {
      value = families h.1.0 Missing;
      spelled = OnlyV4 h.1.0 refl (to-whole h.0 (Ipv4, h.1.0) h.1.1);
      stands = (h.1.2, h.2);
    }

    from-alone6 : (v : IpResources) → Alone6 v → AreFamiliesKept v s
    from-alone6 v h = record {
      value = families Missing h.1.0;
      spelled = OnlyV6 h.1.0 refl (to-whole h.0 (Ipv6, h.1.0) h.1.1);
      stands = (h.2, h.1.2);
    }

    from-both : (v : IpResources) → Both v → AreFamiliesKept v s
    from-both v h = record {
      value = families h.0.0 h.1.0;
      spelled = BothFamilies h.0.0 h.1.0 refl
          (record {
            first = a.spells.front;
            second = m;
            parts = a.spells.parts;
            one =
                to-front (Ipv4, h.0.0) h.0.1;
            two = h.1.1;
          });
      stands = (h.0.2, h.1.2);
    }

    pub no-first-named : ((f : AddressFamily) → SpellsNothing (AreNamedKept f) n) → SpellsNothing AreFamiliesKept s
    no-first-named none v k = elim (apart v k) [
      | inl h ↦ none Ipv4 v.v4 h.1
      | inr h ↦ elim h [ inl i ↦ none Ipv6 v.v6 i.1 | inr i ↦ none Ipv4 v.v4 i.0 ]
    ]

    module _ (f : AddressFamily) (u : Unread) (is : IsFound n f u) where
      not-four : f ≡ Ipv6 → (v : ResourcesChoice) → AreNamedKept Ipv4 v n → ⊥
      not-four six v k = v4-v6 (sym ((is Ipv4 v).0 k).0 ∙ six)

      not-six : f ≡ Ipv4 → (v : ResourcesChoice) → AreNamedKept Ipv6 v n → ⊥
      not-six four v k = v4-v6 (sym four ∙ ((is Ipv6 v).0 k).0)

      found-out : (g : AddressFamily) (v : ResourcesChoice) → AreNamedKept g v n → IsUnread (Addresses g) u v
      found-out g v k = let j = (is g v).0 k in subst (λ (h : AddressFamily). IsUnread (Addresses h) u v) j.0 j.1

      found-in : (g : AddressFamily) (v : ResourcesChoice) → f ≡ g → IsUnread (Addresses g) u v → AreNamedKept g v n
      found-in g v same k = (is g v).1 (same, subst (λ (h : AddressFamily). IsUnread (Addresses h) u v) (sym same) k)

      pub only-v6 : f ≡ Ipv6 → m ≡ [] → (v : IpResources)
          → AreFamiliesKept v s ↔ (IsUnread (Addresses Ipv4) NothingFound v.v4 × IsUnread (Addresses Ipv6) u v.v6)
      only-v6 six end v = (
        λ k. elim (apart v k) [
          | inl h ↦ absurd (not-four six v.v4 h.1)
          | inr h ↦ elim h [
            | inl i ↦ (kept-missing (Addresses Ipv4) v.v4 i.2, found-out Ipv6 v.v6 i.1)
            | inr i ↦ absurd (not-four six v.v4 i.0)
          ]
        ],
        λ k. from-alone6 v (end, found-in Ipv6 v.v6 six k.1, missing-kept (Addresses Ipv4) v.v4 k.0),
      )

      pub behind-v6 : f ≡ Ipv6 → m ≢ [] → SpellsNothing AreFamiliesKept s
      behind-v6 six some v k = elim (apart v k) [
        | inl h ↦ some h.0
        | inr h ↦ elim h [ inl i ↦ some i.0 | inr i ↦ not-four six v.v4 i.0 ]
      ]

      pub only-v4 : f ≡ Ipv4 → m ≡ [] → (v : IpResources)
          → AreFamiliesKept v s ↔ (IsUnread (Addresses Ipv4) u v.v4 × IsUnread (Addresses Ipv6) NothingFound v.v6)
      only-v4 four end v = (
        λ k. elim (apart v k) [
          | inl h ↦ (found-out Ipv4 v.v4 h.1, kept-missing (Addresses Ipv6) v.v6 h.2)
          | inr h ↦ elim h [
            | inl i ↦ absurd (not-six four v.v6 i.1)
            | inr i ↦ absurd (empty-second v.v6 (subst (SpellsNamedKept Ipv6 v.v6) end i.1))
          ]
        ],
        λ k. from-alone4 v (end, found-in Ipv4 v.v4 four k.0, missing-kept (Addresses Ipv6) v.v6 k.1),
      ) where
        empty-second : (w : ResourcesChoice) → SpellsNamedKept Ipv6 w [] → ⊥
        empty-second w k = leaf-some sequence true family_parts.spells (Ipv6, k.0) k.1

      pub both-families : f ≡ Ipv4 → m ≢ [] → (y : Unread)
          → ((v : ResourcesChoice) → SpellsNamedKept Ipv6 v m ↔ IsUnread (Addresses Ipv6) y v) → (v : IpResources)
          → AreFamiliesKept v s ↔ (IsUnread (Addresses Ipv4) u v.v4 × IsUnread (Addresses Ipv6) y v.v6)
      both-families four some y two v = (
        λ k. elim (apart v k) [
          | inl h ↦ absurd (some h.0)
          | inr h ↦ elim h [
            | inl i ↦ absurd (some i.0)
            | inr i ↦ (found-out Ipv4 v.v4 i.0, (two v.v6).0 i.1)
          ]
        ],
        λ k. from-both v (found-in Ipv4 v.v4 four k.0, (two v.v6).1 k.1),
      )

      pub no-second-family : m ≢ [] → SpellsNothing (SpellsNamedKept Ipv6) m → SpellsNothing AreFamiliesKept s
      no-second-family some none v k = elim (apart v k) [
        | inl h ↦ some h.0
        | inr h ↦ elim h [ inl i ↦ some i.0 | inr i ↦ none v.v6 i.1 ]
      ]

-- ---- two that were found

pub if-some : {X : Type 0} {P Q : X → Type 0} (o : Option X) → ((x : X) → P x → Q x) → IfSome o P → IfSome o Q
if-some (Some x) f h = f x h
if-some None f h = tt

pub if-none : {X A B : Type 0} (o : Option X) → (A → B) → IfNone o A → IfNone o B
if-none (Some x) f h = tt
if-none None f h = f h

some-within-none : (bs : List Block) → (bs ≡ [] → ⊥) → AreCanonical bs → IsSubset bs [] → ⊥
some-within-none [] some c f = some refl
some-within-none (b ∷ bs) some c f = none-outer b bs c f

module _ (kind : ResourceKind) (inner outer : Unread) (part : Constructed) (is : inner ≡ Listed part) where
  pub within-none : outer ≡ NothingFound → ((bs : List Block) × AreBlocks kind bs (left part))
      → AreWithin kind inner outer false
  within-none none h = (
    BlocksKept h.0,
    NoneKept,
    subst (λ (x : Unread). IsUnread kind x (BlocksKept h.0)) (sym is) h.1,
    subst (λ (x : Unread). IsUnread kind x NoneKept) (sym none) tt,
    λ z. z,
    (λ z. let wrong : ⊥ = cc in absurd wrong, λ f. absurd (some-within-none h.0 h.1.some h.1.canonical f)),
  )

  pub within-list : (whole : Constructed) → outer ≡ Listed whole → (b : Bool) → ArePart kind (left part) (left whole) b
      → AreWithin kind inner outer b
  within-list whole e b h = (
    BlocksKept h.0,
    BlocksKept h.1,
    subst (λ (x : Unread). IsUnread kind x (BlocksKept h.0)) (sym is) h.2,
    subst (λ (x : Unread). IsUnread kind x (BlocksKept h.1)) (sym e) h.3,
    λ z. z,
    h.4,
  )

pub as-within : (s t : List ℕ) (x y : Unread) → ((v : AsResources) → SpellsAs v s ↔ IsUnread AsNumbers x v.numbers)
    → ((v : AsResources) → SpellsAs v t ↔ IsUnread AsNumbers y v.numbers) → (b : Bool) → AreWithin AsNumbers y x b
    → AreAsWithin s t b
as-within s t x y one two b h = (as_of h.1, as_of h.0, (one (as_of h.1)).1 h.3, (two (as_of h.0)).1 h.2, h.4, h.5)

pub ip-within : (s t : List ℕ) (x y : UnreadIp) → ((v : IpResources) → SpellsIp v s ↔ AreUnreadIp x v)
    → ((v : IpResources) → SpellsIp v t ↔ AreUnreadIp y v)
    → (a b answer : Bool) → IsTrue answer ↔ (IsTrue a × IsTrue b) → AreWithin (Addresses Ipv4) y.v4 x.v4 a
    → AreWithin (Addresses Ipv6) y.v6 x.v6 b → AreIpWithin s t answer
ip-within s t x y one two a b answer both h k = (
  ip_of h.1 k.1,
  ip_of h.0 k.0,
  (one (ip_of h.1 k.1)).1 (h.3, k.3),
  (two (ip_of h.0 k.0)).1 (h.2, k.2),
  record {
    v4 = h.4;
    v6 = k.4;
    within = (
      λ z. let p = both.0 z in (h.5.0 p.0, k.5.0 p.1),
      λ z. both.1 (h.5.1 z.0, k.5.1 z.1),
    );
  },
)
