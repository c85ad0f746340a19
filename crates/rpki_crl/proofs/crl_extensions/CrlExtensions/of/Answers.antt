use Rattle.std.proofs.Common.{List, sym, subst}
use Rattle.rpki.specs.ExtensionValue.{ExtensionParts}
use Rattle.rpki_crl.specs.Crl.{AreExtensions, extensions_of}
use Rattle.rpki_crl.proofs.ExtensionsLaws.{some-weaker, none-weaker, two-items}
use Rattle.rpki_crl.proofs.crl_extensions.CrlExtensions.of.Goals as goal

pub returns-clause-some : goal.returns-clause-some
returns-clause-some c =
    let x = c.first-item.result in
    let y = c.second-item.result in
    let two = two-items c.args.all.now x y c.in-len2.len_at_least c.in-len2.len_below c.first-item.is
    c.second-item.is in
    let say = rw (c.view.ensures, c.view-2.ensures) at c.of_two.ensures.some in
    some-weaker c.of_two.result
    (λ k f. subst (λ (xs : List ExtensionParts). AreExtensions (extensions_of k) xs) (sym two) f)
    say

pub returns-clause-only : goal.returns-clause-only
returns-clause-only c =
    let x = c.first-item.result in
    let y = c.second-item.result in
    let two = two-items c.args.all.now x y c.in-len2.len_at_least c.in-len2.len_below c.first-item.is
    c.second-item.is in
    let only = rw (c.view.ensures, c.view-2.ensures) at c.of_two.ensures.only in
    some-weaker c.of_two.result
    (λ k f v h. f v (subst (λ (xs : List ExtensionParts). AreExtensions v xs) two h))
    only

pub returns-clause-none : goal.returns-clause-none
returns-clause-none c =
    let x = c.first-item.result in
    let y = c.second-item.result in
    let two = two-items c.args.all.now x y c.in-len2.len_at_least c.in-len2.len_below c.first-item.is
    c.second-item.is in
    let none = rw (c.view.ensures, c.view-2.ensures) at c.of_two.ensures.none in
    none-weaker c.of_two.result
    (λ f v h. f v (subst (λ (xs : List ExtensionParts). AreExtensions v xs) two h))
    none
