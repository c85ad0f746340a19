-- All of the rules that a certificate breaks.
use Rattle.std.proofs.Common.{ℕ, ◌+◌, ◌<◌, Bool, List, [], ◌∷◌, ◌++◌, length, get_or, take, subst, sym, inl, inr}
use Rattle.std.proofs.lemmas.List.{take_more}
use Rattle.rpki_cert.specs.Cert.{TbsParts}
use Rattle.rpki_cert.specs.Rule.{Obeys}
use Rattle.rpki_cert.specs.declared.profile.rule.CertRule.{CertRule}
use Rattle.rpkicert.specs.declared.violation.Violation.{Violation}
use Rattle.rpkicert.specs.Broken.{IsBroken, AddsBroken, AreBroken}
use Rattle.rpkicert.specs.Broken.AddsBroken.{Obeyed, Broken}

module _ (strict : Bool) (t : TbsParts) where
  -- one more rule, that is obeyed or broken
  obeyed-more : (rules : List CertRule) (vs : List Violation) (rule : CertRule) → AreBroken strict t rules vs
      → Obeys strict t rule → AreBroken strict t (rules ++ (rule ∷ [])) vs
  obeyed-more [] [] rule h k = (k, tt)
  obeyed-more [] (v ∷ vs) rule h k = absurd h
  obeyed-more (r ∷ rules) [] rule h k = (h.0, obeyed-more rules [] rule h.1 k)
  obeyed-more (r ∷ rules) (v ∷ vs) rule (inl h) k = inl (h.0, obeyed-more rules (v ∷ vs) rule h.1 k)
  obeyed-more (r ∷ rules) (v ∷ vs) rule (inr h) k = inr (h.0, obeyed-more rules vs rule h.1 k)

  broken-more : (rules : List CertRule) (vs : List Violation) (rule : CertRule) (v : Violation)
      → AreBroken strict t rules vs → IsBroken strict t rule v
      → AreBroken strict t (rules ++ (rule ∷ [])) (vs ++ (v ∷ []))
  broken-more [] [] rule v h k = inr (k, tt)
  broken-more [] (w ∷ vs) rule v h k = absurd h
  broken-more (r ∷ rules) [] rule v h k = inl (h.0, broken-more rules [] rule v h.1 k)
  broken-more (r ∷ rules) (w ∷ vs) rule v (inl h) k = inl (h.0, broken-more rules (w ∷ vs) rule v h.1 k)
  broken-more (r ∷ rules) (w ∷ vs) rule v (inr h) k = inr (h.0, broken-more rules vs rule v h.1 k)

  added : (rules : List CertRule) (rule : CertRule) (vs ws : List Violation) → AreBroken strict t rules vs
      → AddsBroken strict t rule vs ws → AreBroken strict t (rules ++ (rule ∷ [])) ws
  added rules rule vs ws h (Obeyed k e) =
      subst (λ (us : List Violation). AreBroken strict t (rules ++ (rule ∷ [])) us) (sym e)
      (obeyed-more rules vs rule h k)
  added rules rule vs ws h (Broken v k e) =
      subst (λ (us : List Violation). AreBroken strict t (rules ++ (rule ∷ [])) us) (sym e)
      (broken-more rules vs rule v h k)

  -- the next rule of a list
  pub next-broken : (rules : List CertRule) (i : ℕ) (d : CertRule) (vs ws : List Violation) → i < length rules
      → AreBroken strict t (take i rules) vs → AddsBroken strict t (get_or rules i d) vs ws
      → AreBroken strict t (take (i + 1) rules) ws
  next-broken rules i d vs ws lt h k =
      subst (λ (w : List CertRule). AreBroken strict t w ws) (sym (take_more rules i d lt))
      (added (take i rules) (get_or rules i d) vs ws h k)
