use Rattle.std.proofs.Common.{◌<◌, ◌^◌, ℕ, List, length, sym, subst, ◌∙◌}
use Rattle.rpki_issue.proofs.RequestLaws.{asked-few}
use Rattle.rpki_issue.proofs.csr_written.write_info.Goals as goal

pub put_all-requires : goal.put_all-requires
put_all-requires c =
    subst (λ (w : List ℕ). length w < 2 ^ 20)
    (sym (c.in_ok-listed-2.ensures.ok ∙ c.as_slice.ensures.value ∙ c.in_ok-listed.ensures))
    (asked-few c.args.builder.now c.requires)
