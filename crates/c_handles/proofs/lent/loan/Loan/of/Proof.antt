-- `of` moves the two fields, and the right to the bytes goes with them.
use Rattle.std.proofs.Common.{◌≡◌, Bool, true, List, [], ◌∷◌, refl}
use Rattle.std.proofs.raw_atomic.Walks.{proved}
use mir.Val.{Val}
use base.Logic.{id⊢}
use base.Fml.{ftrue, fsep}
use contract.Monad.{fact}
use contract.Running.{tables}
use types.Kit.{‵, raw, ◌⊛◌, ◌$◌, ◌∵◌, !, qed, done, move, drop, use1, split, join, fsplit, fjoin, rewrite, suffices}
use types.Part.{whole, sub, agg}
use types.Run.{enter, of_opd, stop, fld, no_more, and_then, returns}
use types.ByLocal.{alloc_all, pass_all, free_all, look_at, get, get_in, sets}
use denote.Exit.{yes}
use denote.Laws.{Is, Tells}
use denote.RattleType.{RattleType}
use denote.Signature.{plain}
use denote.Steps.{nothing, heard}
use denote.Triple.Walked.{Stays, stay_dropped, Goes-dropped, walk_of, says, ends_at}
use Rattle.c_handles.specs.Lent.Loans.{lent_owns}
use Rattle.c_handles.specs.contracts.lent.loan.Lent as lent
use Rattle.c_handles.specs.contracts.lent.loan.Loan as loan
use Rattle.c_handles.proofs.lent.loan.Lent.TheLaws.{lowers}
use Rattle.c_handles.proofs.lent.LentFields.{word, word_good, pointer_good, wide}
use Rattle.c_handles.specs.contracts.lent.loan.Loan.of as f
use Rattle.c_handles.proofs.lent.loan.Loan.of.Statement.{statement}
use Rattle.c_handles.proofs.lent.loan.Loan.of.Code as code

abbrev From : RattleType
From = lent.the_row

abbrev To : RattleType
To = loan.the_row

abbrev vals : From.Denot → List Val
vals d = word d.at d.len ∷ []

tells : Tells From (Is From) vals
tells = lowers.val_is

abbrev stayed : Stays f.ended.signature.params f.ended.kept
stayed = (stay_dropped (plain (λ _. From)) yes, tt)

pub of_spec : {M : Type 1} → statement M
of_spec 𝓤 𝓛 𝓜 𝓡 wired =
    let c = f.clauses 𝓛 𝓜.mem 𝓡.returns in let W = walk_of 𝓛 f.ended stayed c in
    let 𝓣 = tables 𝓤 𝓛.H 𝓜 𝓡 𝓡.env in
    proved 𝓛 f.ended stayed c 𝓜 𝓡 (Goes-dropped 𝓛 0 (plain (λ _. From)) yes (λ κs x w. refl), tt)
    f.Key.name code.function (code.unfolded 𝓤 𝓛.H 𝓜 𝓡 wired)
    (λ κs. (vals, tt)) (λ κs. (tells, tt)) (λ κs qs bounds a g are.
    let d = a.0 in let v = word d.at d.len in
    let fits = wide d.len d.small.1 in let good = word_good d.at d.len fits in
    let made : To.Denot =
    record { at = d.at; len = d.len; part = d.part; bytes = d.bytes; small = d.small } in
    let y : W.Ghost = ((κs, qs, bounds, a, (vals d, tt)), g) in
    qed 𝓛 ((‵ ftrue ⊛ ‵ (fsep (From.own_val d (vals d)) ftrue)) ∷ raw (fact 𝓤 (d.lent ≡ true))
    ∷ []) ∵
    move ! (1 ∷ []) $ heard ! (d.lent ≡ true) (λ is.
    split ! $ drop ! $ fsplit ! $ move ! (1 ∷ []) $ drop ! $ fsplit ! $
    -- [the fields; the right to the bytes]
    move ! (1 ∷ []) $
    rewrite ! 0 (λ (t : Bool). ‵ (lent_owns t d.part d.at d.len d.bytes)) is refl $
    move ! (1 ∷ []) $ fjoin ! $ use1 𝓛 (‵ (To.own_val made (v ∷ []))) (id⊢ 𝓤 _) $
    enter ! 𝓣.C 𝓣.Λ code.function (v ∷ []) _ $ alloc_all ! (λ l. pass_all ! refl (good, tt) $
    sets ! (of_opd ! (get_in ! (fld ! refl (stop !)) (sub ! 0 refl (whole !)))) refl
    (pointer_good d.at) $
    sets ! (of_opd ! (get_in ! (fld ! refl (stop !)) (sub ! 1 refl (whole !)))) refl
    (tt, record { fits = fits }) $
    sets ! (agg ! (and_then ! (get ! refl) (and_then ! (get ! refl) (no_more !)))) refl good $
    returns ! (look_at ! 0 refl) $ free_all ! refl $
    suffices ! _ (ends_at 𝓛 f.ended stayed c y v made (tt, tt) (tt, tt)) $
    says ! (refl, refl, refl) $
    nothing ! $ nothing ! $ fjoin ! $ join ! $ nothing ! $ join ! $ done !)))
