use Rattle.std.proofs.Common.{◌≡◌, ◌+◌, drop, List, ℕ, arith, ap, ◌∙◌}
use Rattle.std.specs.List.{position_or_len}
use Rattle.std.proofs.lemmas.List.{drop-drop}
use Rattle.rpki_text.specs.Segments.{is_slash}
use Rattle.rpki_text.proofs.UriLaws.{module-stands, module-misses, module-empty}
use Rattle.rpki_text.proofs.uri.rsync_view.module_and_path.Goals as goal

behind_first : (t rest tail : List ℕ) (a : ℕ) → rest ≡ drop 8 t → tail ≡ drop (a + 1) rest → tail ≡ drop (9 + a) t
behind_first t rest tail a er et = et ∙ ap (drop (a + 1)) er ∙ drop-drop (a + 1) 8 t ∙ ap (λ n. drop n t) (omega arith)

pub returns-then-module-eq0-clause-full : goal.returns-then-module-eq0-clause-full
returns-then-module-eq0-clause-full c =
    let ea = c.slash_at-authority.ensures.value ∙ ap (position_or_len is_slash) c.split_at.ensures.back in
    let tail = behind_first c.args.text.now _ _ _ c.split_at.ensures.back c.split_at-2.ensures.back in
    module-empty c.args.text.now _ _ ea (c.slash_at-module.ensures.value ∙ ap (position_or_len is_slash) tail)
    c.if-module-eq0.true

pub returns-then-module-tail-clause-full : goal.returns-then-module-tail-clause-full
returns-then-module-tail-clause-full c =
    let ea = c.slash_at-authority.ensures.value ∙ ap (position_or_len is_slash) c.split_at.ensures.back in
    let tail = behind_first c.args.text.now _ _ _ c.split_at.ensures.back c.split_at-2.ensures.back in
    module-misses c.args.text.now _ _ ea (c.slash_at-module.ensures.value ∙ ap (position_or_len is_slash) tail)
    (omega arith)

pub returns-clause-full : goal.returns-clause-full
returns-clause-full c =
    let ea = c.slash_at-authority.ensures.value ∙ ap (position_or_len is_slash) c.split_at.ensures.back in
    let tail = behind_first c.args.text.now _ _ _ c.split_at.ensures.back c.split_at-2.ensures.back in
    module-stands c.args.text.now _ _ ea (c.slash_at-module.ensures.value ∙ ap (position_or_len is_slash) tail)
    (omega arith) (omega arith) (omega arith)

pub returns-clause-starts : goal.returns-clause-starts
returns-clause-starts c =
    let ea = c.slash_at-authority.ensures.value ∙ ap (position_or_len is_slash) c.split_at.ensures.back in
    let tail = behind_first c.args.text.now _ _ _ c.split_at.ensures.back c.split_at-2.ensures.back in
    let at : 9 + c.slash_at-authority.result ≡ 8 + c.slash_at-authority.result + 1 = omega arith in
    let em : c.slash_at-module.result ≡ position_or_len is_slash
    (drop (8 + c.slash_at-authority.result + 1) c.args.text.now) =
    c.slash_at-module.ensures.value ∙ ap (position_or_len is_slash) (tail ∙ ap (λ n. drop n c.args.text.now) at) in
    (omega arith, omega arith)
