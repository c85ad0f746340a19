-- What is seen of files, in sequence.
use Rattle.std.proofs.Common.{◌≡◌, ℕ, ◌+◌, ◌<◌, ◌≤◌, List, [], ◌∷◌, ◌++◌, length, get_or, take, drop, map, refl, sym}
use Rattle.std.proofs.Common.{ap, subst, ◌∙◌, append_assoc, arith}
use Rattle.std.proofs.lemmas.List.{append-nil, take_more, take_all, take-append-drop, map-append}
use Rattle.std.specs.Prelude.{max}
use Rattle.rpki_cli.specs.World.{World, IsPrinted, IsTold}
use Rattle.rpkicert.specs.Output.{OutputParts, AreSeen, outputs, faults, worst, IsRun}
use Rattle.rpkicert.specs.Output.IsRun.{Whole, Cut}
use Rattle.rpkicert.specs.Words.{IsCut, Writes}

-- one more
seen-more : (P : List ℕ → OutputParts → Type 0) (names : List (List ℕ)) (all : List OutputParts) (name : List ℕ)
    (s : OutputParts)
    → AreSeen P names all → P name s → AreSeen P (names ++ (name ∷ [])) (all ++ (s ∷ []))
seen-more P [] [] name s h k = (k, tt)
seen-more P [] (t ∷ ts) name s h k = absurd h
seen-more P (n ∷ ns) [] name s h k = absurd h
seen-more P (n ∷ ns) (t ∷ ts) name s h k = (h.0, seen-more P ns ts name s h.1 k)

pub outputs-more : (all : List OutputParts) (s : OutputParts) → outputs (all ++ (s ∷ [])) ≡ outputs all ++ s.output
outputs-more [] s = append-nil s.output
outputs-more (t ∷ ts) s = ap (λ (w : List ℕ). t.output ++ w) (outputs-more ts s)
    ∙ sym (append_assoc t.output (outputs ts) s.output)

pub faults-more : (all : List OutputParts) (s : OutputParts) → faults (all ++ (s ∷ [])) ≡ faults all ++ s.faults
faults-more [] s = append-nil s.faults
faults-more (t ∷ ts) s = ap (λ (w : List ℕ). t.faults ++ w) (faults-more ts s)
    ∙ sym (append_assoc t.faults (faults ts) s.faults)

pub worst-more : (all : List OutputParts) (s : OutputParts) → worst (all ++ (s ∷ [])) ≡ max (worst all) s.status
worst-more [] s = omega arith
worst-more (t ∷ ts) s = let e = worst-more ts s in omega (arith, e)

-- what was seen of the files so far
pub record HaveSeen (P : List ℕ → OutputParts → Type 0) (names : List (List ℕ)) (old new : World) (status : ℕ) : Type 0
  where
    pub all : List OutputParts
    pub seen : AreSeen P names all
    pub written : Writes old new (outputs all) (faults all)
    pub status_is : status ≡ worst all

-- ---- what is written

-- nothing
pub writes-none : (w : World) → Writes w w [] []
writes-none w = record {
  same = λ n. refl;
  printed = sym (append-nil w.printed);
  told = sym (append-nil w.told);
  failed = refl;
}

-- a text to each stream
pub writes-both : (old mid new : World) (output said : List ℕ) → IsPrinted old mid output → IsTold mid new said
    → Writes old new output said
writes-both old mid new output said p t = record {
  same = λ n. t.same n ∙ p.same n;
  printed = t.printed ∙ p.printed;
  told = t.told ∙ ap (λ w. w ++ said) p.told;
  failed = t.failed ∙ p.failed;
}

-- one after the other
pub writes-more : (old mid new : World) (output said more also : List ℕ) → Writes old mid output said
    → Writes mid new more also → Writes old new (output ++ more) (said ++ also)
writes-more old mid new output said more also h k = record {
  same = λ n. k.same n ∙ h.same n;
  printed = k.printed ∙ ap (λ w. w ++ more) h.printed ∙ append_assoc old.printed output more;
  told = k.told ∙ ap (λ w. w ++ also) h.told ∙ append_assoc old.told said also;
  failed = k.failed ∙ h.failed;
}

-- the same of equal texts
writes-as : (old new : World) (output said other also : List ℕ) → other ≡ output → also ≡ said
    → Writes old new output said → Writes old new other also
writes-as old new output said other also e f h =
    subst (λ (w : List ℕ). Writes old new w also) (sym e)
    (subst (λ (w : List ℕ). Writes old new output w) (sym f) h)

-- ---- files, one after the other

pub none-seen : (P : List ℕ → OutputParts → Type 0) (w : World) → HaveSeen P [] w w 0
none-seen P w = record { all = []; seen = tt; written = writes-none w; status_is = refl }

pub names-more : {A : Type 0} (text : A → List ℕ) (files : List A) (i : ℕ) (file : A) → i < length files
    → file ≡ get_or files i file
    → map text (take (i + 1) files) ≡ map text (take i files) ++ (text file ∷ [])
names-more text files i file h e =
    ap (map text) (take_more files i file h) ∙ map-append text (take i files) (get_or files i file ∷ [])
    ∙ ap (λ w. map text (take i files) ++ (text w ∷ [])) (sym e)

pub one-seen : {A : Type 0} (text : A → List ℕ) (P : List ℕ → OutputParts → Type 0) (files : List A) (i : ℕ) (file : A)
    (old mid new : World) (n status : ℕ) (s : OutputParts)
    → i < length files → file ≡ get_or files i file → HaveSeen P (map text (take i files)) old mid n
    → P (text file) s → Writes mid new s.output s.faults → status ≡ s.status
    → HaveSeen P (map text (take (i + 1) files)) old new (max n status)
one-seen text P files i file old mid new n status s lt e h k w z = record {
  all = h.all ++ (s ∷ []);
  seen = subst (λ (w : List (List ℕ)). AreSeen P w (h.all ++ (s ∷ []))) (sym (names-more text files i file lt e))
      (seen-more P (map text (take i files)) h.all (text file) s h.seen k);
  written = writes-as old new _ _ _ _ (outputs-more h.all s) (faults-more h.all s)
      (writes-more old mid new (outputs h.all) (faults h.all) s.output s.faults h.written w);
  status_is = ap (λ w. max w status) h.status_is ∙ ap (λ w. max (worst h.all) w) z ∙ sym (worst-more h.all s);
}

pub all-seen : {A : Type 0} (text : A → List ℕ) (P : List ℕ → OutputParts → Type 0) (files : List A) (i : ℕ)
    (old new : World) (status : ℕ)
    → length files ≤ i → HaveSeen P (map text (take i files)) old new status
    → IsRun P (map text files) old new status
all-seen text P files i old new status le h =
    Whole h.all (subst (λ w. AreSeen P (map text w) h.all) (take_all i files le) h.seen) h.written h.status_is

-- the output or the faults can't be written at this file
pub cut-seen : {A : Type 0} (text : A → List ℕ) (P : List ℕ → OutputParts → Type 0) (files : List A) (i : ℕ) (file : A)
    (old mid new : World) (n : ℕ) (s : OutputParts)
    → i < length files → file ≡ get_or files i file → HaveSeen P (map text (take i files)) old mid n
    → P (text file) s → IsCut mid new s.output s.faults → IsRun P (map text files) old new 2
cut-seen text P files i file old mid new n s lt e h k cut =
    let rest = map text (drop (i + 1) files) in
    let front = map text (take i files) in
    Cut front rest (text file) h.all s mid
    (ap (map text) (sym (take-append-drop (i + 1) files)) ∙ map-append text (take (i + 1) files) (drop (i + 1) files)
    ∙ ap (λ w. w ++ rest) (names-more text files i file lt e) ∙ append_assoc front (text file ∷ []) rest)
    h.seen k h.written cut refl
