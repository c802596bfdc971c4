-- `bytes` reads the two fields through the reference, and shows what the loan shares.
use Rattle.std.proofs.Common.{◌≡◌, ℕ, ◌*◌, ◌^◌, ◌<◌, List, [], ◌∷◌, length, refl, sym, ap, ◌∙◌, arith}
use Rattle.std.proofs.raw_atomic.Walks.{proved}
use Rattle.std.proofs.VecSteps.Shapes.{after}
use seplogic.Ra.Ura.{Ura}
use mir.Syntax.{named}
use mir.Val.{Val, vptr}
use base.Logic.{SProp, ent, sep, emp}
use base.Fml.{Lft, ftrue, fhide, flft}
use prog.Memory.{Memory}
use prog.Routine.{Routine}
use contract.Monad.{Fun, fact}
use contract.Running.{tables}
use types.Logic.{Logic, sem}
use types.Kit.{‵, raw, ◌⊛◌, at_ret, ◌$◌, ◌∵◌, !, qed, by, done, move, keep, drop, use1, split, join, fsplit, fjoin, feq_i, flt_i, rewrite, suffices, frame}
use types.Part.{whole, sub, agg, look_in}
use types.Run.{enter, of_opd, stop, fld, load, no_more, and_then, first, blocks, exec, returns}
use types.ByLocal.{alloc_all, pass_all, free_all, look_at, get, through, sets, sets_last, env}
use denote.Builtin.{u8, RefOf}
use denote.Exit.{yes}
use denote.Laws.{Is, shows}
use denote.Memory.{mem, cell_at, hidden_shr}
use denote.Opens.{unhide, hide}
use denote.RattleType.{RattleType, owns}
use denote.RawPtr.{InBlock, block_of, count_of, at_block}
use denote.Ref.{shr_vals, shr_Tells}
use denote.Signature.{Slot, types_at, plain}
use denote.Slice.{slice_val, elements_shared}
use denote.Steps.{nothing, heard, looks, shuts, peeks}
use denote.Struct.Lending.{lent_out, in_block_says}
use denote.Triple.Walked.{Stays, stay_dropped, Goes-dropped, walk_of, says, ends_at}
use Rattle.c_handles.specs.Lent.Loans.{loan_shares}
use Rattle.c_handles.specs.contracts.lent.loan.Loan as loan
use Rattle.c_handles.proofs.lent.LentFields.{Fields, word, told, opened, wide}
use Rattle.c_handles.specs.contracts.lent.loan.Loan.bytes as f
use Rattle.c_handles.proofs.lent.loan.Loan.bytes.Statement.{statement}
use Rattle.c_handles.proofs.lent.loan.Loan.bytes.Code as code

abbrev Row : RattleType
Row = loan.the_row

abbrev self : Slot 1
self = RefOf (0 ∷ []) tt (plain (λ _. Row)) (λ _. tt)

abbrev stayed : Stays f.ended.signature.params f.ended.kept
stayed = (stay_dropped self yes, tt)

module _ {M : Type 1} {𝓤 : Ura M} (𝓛 : Logic 𝓤) (at_mem : Memory → SProp 𝓤)
    (run : Routine → Fun 𝓤) where
  open 𝓛 use {A}

  module _ (y : (walk_of 𝓛 f.ended stayed (f.clauses 𝓛 at_mem run)).Ghost) where
    abbrev κ : Lft
    κ = y.0.0.0

    abbrev d : Row.Denot
    d = y.0.3.0.now

    abbrev there : ℕ × ℕ
    there = (block_of d.at, count_of d.at)

    -- the slice of the bytes where they lie is what the clause says
    ends : ent 𝓤
        (sep 𝓤 (A.lft κ y.0.1.0) (sem 𝓛 (fhide (elements_shared u8 d.bytes there.0 there.1 κ))))
        ((walk_of 𝓛 f.ended stayed (f.clauses 𝓛 at_mem run)).post y (slice_val there d.len))
    ends =
        let same : length d.bytes ≡ d.len = d.small.0 in
        let small : length d.bytes * (mem u8).size < 2 ^ 63 = omega (arith, same, d.small.1) in
        let fits : length d.bytes < 2 ^ 64 = omega (arith, same, d.small.1) in
        qed 𝓛 (‵ (flft κ y.0.1.0) ∷ ‵ (fhide (elements_shared u8 d.bytes there.0 there.1 κ)) ∷ []) ∵
        suffices ! _ (ends_at 𝓛 f.ended stayed (f.clauses 𝓛 at_mem run) y (slice_val there d.len)
        (record { ref_ptr = there; now = d.bytes }) (tt, tt) (tt, tt)) $ says ! refl $
        nothing ! $ move ! (1 ∷ 0 ∷ []) $ join ! $ frame ! $ nothing ! $ nothing ! $ fjoin ! $
        frame ! $
        flt_i ! (length d.bytes * (mem u8).size) (2 ^ 63) small $
        flt_i ! (length d.bytes) (2 ^ 64) fits $ fjoin ! $
        feq_i ! (List Val) (slice_val there d.len ∷ []) (slice_val there (length d.bytes) ∷ [])
        (ap (λ (n : ℕ). slice_val there n ∷ []) (sym same)) $ fjoin ! $ fjoin ! $ done !

pub bytes_spec : {M : Type 1} → statement M
bytes_spec 𝓤 𝓛 𝓜 𝓡 wired =
    let H = 𝓛.H in let c = f.clauses 𝓛 𝓜.mem 𝓡.returns in let W = walk_of 𝓛 f.ended stayed c in
    let 𝓣 = tables 𝓤 H 𝓜 𝓡 𝓡.env in let fn = code.function in
    proved 𝓛 f.ended stayed c 𝓜 𝓡 (Goes-dropped 𝓛 1 self yes (λ κs x w. refl), tt)
    f.Key.name fn (code.unfolded 𝓤 H 𝓜 𝓡 wired)
    (λ κs. (shr_vals, tt)) (λ κs. (shr_Tells (named 0) κs.0 Row, tt)) (λ κs qs bounds a g are.
    let b = a.0.ref_ptr.0 in let o = a.0.ref_ptr.1 in let κ = κs.0 in
    let d = a.0.now in let p = d.at in let n = d.len in
    let y : W.Ghost = ((κs, qs, bounds, a, (vptr b o ∷ [], tt)), g) in
    let Post : Val → SProp 𝓤 = W.post y in
    let fits = wide n d.small.1 in
    qed 𝓛 (((‵ (flft κ qs.0) ⊛ ‵ ftrue) ⊛ ‵ (owns (types_at f.ended.signature.params κs) a y.0.4))
    ∷ raw (emp 𝓤) ∷ []) ∵
    split ! $ split ! $ move ! (2 ∷ []) $ fsplit ! $ fsplit ! $ keep ! (1 ∷ 3 ∷ []) $
    -- [what the reference holds; the token]
    enter ! 𝓣.C 𝓣.Λ fn (vptr b o ∷ []) Post $ alloc_all ! (λ l. pass_all ! refl ((tt, tt), tt) $
    let Ev = env fn.locals l in
    use1 𝓛 (‵ (hidden_shr Fields κ (p, (n, tt)) b o) ⊛ ‵ (fhide (loan_shares p n d.bytes κ)))
    (lent_out 𝓛 loan.struct loan.the_codes loan.the_heap loan.the_lent κ d b o) $ split ! $
    move ! (1 ∷ []) $ unhide ! $ fsplit ! $
    use1 𝓛 (raw (fact 𝓤 (InBlock p))) (in_block_says 𝓛 p) $ heard ! (InBlock p) (λ inside.
    fsplit ! $ drop ! $ hide ! $
    -- [the bytes; the fields; the token; the locals]
    move ! (1 ∷ 2 ∷ []) $ looks ! tt Fields (opened 𝓛) (p, (n, tt)) b o (λ q vs.
    -- [the cell; what the fields own; the way back; the fields; the bytes; the locals]
    move ! (1 ∷ []) $ peeks ! Fields (Is Fields) (shows 𝓛 Fields) (p, (n, tt)) vs (λ is.
    let there = told p n vs is ∙ ap (λ r. word r n ∷ []) (at_block p inside) in
    rewrite ! 1 (λ (ws : List Val). ‵ (cell_at q Fields.mir ws b o)) there refl $
    first ! $ blocks ! $
    sets ! (of_opd ! (load ! (through ! refl (fld ! refl (stop !)))
    (look_in ! 1 (sub ! 0 refl (whole !))))) refl (tt, tt) $
    sets ! (of_opd ! (load ! (through ! refl (fld ! refl (stop !)))
    (look_in ! 1 (sub ! 1 refl (whole !)))))
    refl (tt, record { fits = fits }) $
    sets_last ! (agg ! (and_then ! (get ! refl) (and_then ! (get ! refl) (no_more !)))) refl
    (tt, (tt, (record { fits = fits }, tt))) $
    exec ! 𝓣.C 𝓣.Λ Ev (after 1 fn.body) (at_ret Ev Post) $
    sets ! (of_opd ! (get ! refl)) refl (tt, (tt, (record { fits = fits }, tt))) $
    rewrite ! 1 (λ (ws : List Val). ‵ (cell_at q Fields.mir ws b o)) (sym there) refl $
    move ! (1 ∷ 0 ∷ 2 ∷ []) $ shuts ! tt Fields q (p, (n, tt)) vs b o $
    -- [the token; the fields; the bytes; the locals]
    returns ! (look_at ! 0 refl) $ free_all ! refl $ keep ! (0 ∷ 2 ∷ []) $
    by ! (ends 𝓛 𝓜.mem 𝓡.returns y))))))
