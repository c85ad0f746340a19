use Rattle.std.proofs.Common.{ℕ, List, [], ◌∷◌, ◌++◌, ap, ◌∙◌}
use Rattle.rpki_issue.specs.Extensions.{extensions_listed}
use Rattle.rpki_issue.specs.Requests.{usage_part, asked_extensions}
use Rattle.rpki_issue.specs.Rows.{constraints_extension, repository_extension}
use Rattle.rpki_issue.proofs.ListedLaws.{more-then}
use Rattle.rpki_issue.proofs.csr_written.list_asked.Goals as goal

pub returns : goal.returns
returns c =
    let x = c.args.builder.now in
    more-then _ _ _ (constraints_extension ∷ usage_part x.key_usage) (repository_extension x.repository ∷ [])
    (more-then _ _ _ (constraints_extension ∷ []) (usage_part x.key_usage) c.in_ok-push_basic.ensures
    c.in_ok-push_asked.ensures)
    c.in_ok-push_repository.ensures
    ∙ ap (λ (w : List ℕ). w ++ extensions_listed (asked_extensions x)) c.new-listed.ensures.items
