use Rattle.rpki_resources.proofs.ListReadLaws.{other-family}
use Rattle.rpki_resources.proofs.list_read.ip_block_of_text.Goals as goal

pub returns-in_default : goal.returns-in_default
returns-in_default c = λ b h. c.in_default.ensures.value h.0 h.1

pub returns-in_default-2 : goal.returns-in_default-2
returns-in_default-2 c =
    other-family c.args.text.now c.in-Ok.block c.args.family c.in-Ok.ensures.value
    (λ e. let x = c.in_default-2.is-0 in let y = c.in_default-2.is-1 in let z =
    c.family_of_block.ensures in let no : ⊥ = cc in no)

pub returns-in_default-2-2 : goal.returns-in_default-2-2
returns-in_default-2-2 c =
    other-family c.args.text.now c.in-Ok.block c.args.family c.in-Ok.ensures.value
    (λ e. let x = c.in_default-2.is-0 in let y = c.in_default-2.is-1 in let z =
    c.family_of_block.ensures in let no : ⊥ = cc in no)
