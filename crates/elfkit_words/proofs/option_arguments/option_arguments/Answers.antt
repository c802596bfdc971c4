use Rattle.std.proofs.Common.{◌++◌, ◌∷◌, [], None, Some, sym, ap, ◌∙◌}
use Rattle.std.proofs.lemmas.Bool.{cond-true, cond-false, eq-eqb, ne_eqb}
use Rattle.std.proofs.lemmas.List.{append-nil}
use Rattle.elfkit_words.proofs.Folds.{option_arguments_more}
use Rattle.elfkit_words.proofs.option_arguments.option_arguments.Goals as goal
use Rattle.elfkit_words.proofs.option_arguments.option_arguments.Goals.{then-option-letter+in-Some+in_ok-add, then-option-letter+in_default, else-option-letter}

pub loop-option-preserved : goal.loop-option-preserved
loop-option-preserved c =
    let more = option_arguments_more c.args.letter c.args.options.now c.loop-option.option-index c.option-item.result c.loop-option.words c.if-option-letter.words in
    elim c.if-option-letter.branch [
      | then-option-letter+in-Some+in_ok-add w ↦
          more (Some w.in-Some.word) c.loop-option-test.true c.option-item.is c.loop-option.invariant
          (cond-true _ _ _ (eq-eqb _ _ w.if-option-letter.true) ∙ w.in-Some.is)
          (w.words-is ∙ w.in_ok-add.ensures.ok ∙ ap (λ word. c.loop-option.words ++ word ∷ []) w.as_str.ensures)
      | then-option-letter+in_default w ↦
          more None c.loop-option-test.true c.option-item.is c.loop-option.invariant
          (cond-true _ _ _ (eq-eqb _ _ w.if-option-letter.true) ∙ w.in_default.is)
          (w.words-is ∙ sym (append-nil c.loop-option.words))
      | else-option-letter w ↦
          more None c.loop-option-test.true c.option-item.is c.loop-option.invariant
          (cond-false _ _ _ (ne_eqb _ _ w.if-option-letter.false))
          (w.words-is ∙ sym (append-nil c.loop-option.words))
    ]
