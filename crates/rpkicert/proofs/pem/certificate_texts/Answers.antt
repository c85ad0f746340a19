use Rattle.std.proofs.Common.{◌≡◌, ◌∙◌, ◌+◌, ◌<◌, ◌++◌, [], ◌∷◌, List, ℕ, true, false, length, drop, map, sym}
use Rattle.std.proofs.Common.{ap, ap₂, subst, arith}
use Rattle.std.proofs.lemmas.List.{append-nil, map-append}
use Rattle.rpkicert.specs.Pem.{begins, from_begin, up_to, certificate_texts}
use Rattle.rpkicert.proofs.PemLaws.{cut-here, cut-past, cut-nowhere}
use Rattle.rpkicert.proofs.pem.certificate_texts.Goals.{then-begins+in_ok-push, else-begins}
use Rattle.rpkicert.proofs.pem.certificate_texts.Goals as goal

pub loop-at-preserved : goal.loop-at-preserved
loop-at-preserved c =
    let text = c.args.text.now in
    let at = c.loop-at.at in
    let lt : at < length text = omega arith in
    let rest : c.after-rest.result.now ≡ drop at text = c.after-rest.ensures in
    let before : map (λ t. t.now) c.loop-at.texts.items ++ certificate_texts (drop at text) ≡ certificate_texts text =
    c.loop-at.invariant in
    elim c.if-begins.branch [
      | then-begins+in_ok-push w ↦
          let is = subst (λ (l : List ℕ). begins l ≡ true) rest
          (sym c.begins.ensures ∙ w.if-begins.true) in
          let one = w.certificate_text.ensures ∙ ap (λ (l : List ℕ). up_to l (from_begin (drop 1 l))) rest in
          let all : map (λ t. t.now) c.if-begins.texts.items
          ≡ map (λ t. t.now) c.loop-at.texts.items ++ (w.certificate_text.result.now ∷ []) =
          ap (λ v. map (λ t. t.now) v.items) w.texts-is ∙ ap (map (λ t. t.now)) w.in_ok-push.ensures.items
          ∙ map-append (λ t. t.now) c.loop-at.texts.items (w.certificate_text.result ∷ []) in
          ap (λ (v : List (List ℕ)). v ++ certificate_texts (drop (at + 1) text)) all
          ∙ cut-here text at (at + 1) (map (λ t. t.now) c.loop-at.texts.items) w.certificate_text.result.now
          (omega arith) lt is one ∙ before
      | else-begins w ↦
          let none = subst (λ (l : List ℕ). begins l ≡ false) rest
          (sym c.begins.ensures ∙ w.if-begins.false) in
          ap₂ (λ (v w : List (List ℕ)). v ++ w) (ap (λ v. map (λ t. t.now) v.items) w.texts-is)
          (cut-past text at (at + 1) (omega arith) lt none) ∙ before
    ]

pub returns : goal.returns
returns c =
    sym (append-nil (map (λ t. t.now) c.loop-at.texts.items))
    ∙ ap (λ (l : List (List ℕ)). map (λ t. t.now) c.loop-at.texts.items ++ l)
    (sym (cut-nowhere c.args.text.now c.loop-at.at c.loop-at-test.false)) ∙ c.loop-at.invariant
