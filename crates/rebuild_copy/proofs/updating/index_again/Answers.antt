use Rattle.std.proofs.Common.{List, Option, ℕ, sym, ap, ◌∙◌, subst}
use Rattle.rebuild_select.specs.Sought.Names.{AreUpTo}
use Rattle.rebuild_changes.specs.declared.faults.CopyFault.TheVariants as faults
use Rattle.rebuild_copy.specs.Indexes.{IsIndexOf}
use Rattle.rebuild_copy.proofs.NameLaws.{index_is}
use Rattle.rebuild_copy.proofs.updating.index_again.Goals as goal

pub returns-then-s-x-clause-indexed : goal.returns-then-s-x-clause-indexed
returns-then-s-x-clause-indexed c = λ o p names is index same.
    subst (λ (l : List (Option (List ℕ))). IsIndexOf c.args.index.now l)
    (same (λ at. c.if-s-x.true (at ∙ sym (index_is o p c.args.x.now is)))) index

pub fill_index-requires-clause-up_to : goal.fill_index-requires-clause-up_to
fill_index-requires-clause-up_to c =
    subst (λ (l : List (List ℕ)). AreUpTo c.args.longest l) (sym c.clear.ensures.sought)
    c.requires

pub returns-in-Ok-clause-sought : goal.returns-in-Ok-clause-sought
returns-in-Ok-clause-sought c = c.fill_index.ensures.sought ∙ c.clear.ensures.sought

pub returns-in-Ok-clause-indexed : goal.returns-in-Ok-clause-indexed
returns-in-Ok-clause-indexed c = λ o p names is index same. c.in-Ok.ensures.index o p is

pub returns-in-Err-clause-sought : goal.returns-in-Err-clause-sought
returns-in-Err-clause-sought c = c.fill_index.ensures.sought ∙ c.clear.ensures.sought

pub returns-in-Err-clause-err : goal.returns-in-Err-clause-err
returns-in-Err-clause-err c = ap faults.Strip c.in-Err.ensures.err
