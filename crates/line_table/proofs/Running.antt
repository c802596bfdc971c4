-- Executing instructions, one after the other, makes the rows of the list of all of them.
use Rattle.std.proofs.Common.{◌≡◌, ℕ, ◌+◌, ◌-◌, ◌<◌, false, eqb, List, [], ◌∷◌, ◌++◌, length, Some, None, Result, Ok, Err, IfSome, refl, sym, ap, subst, ◌∙◌, append_assoc, arith}
use Rattle.std.specs.Prelude.{option_to_list}
use Rattle.std.proofs.lemmas.List.{append-nil}
use Rattle.line_table.specs.declared.faults.LineWhy.{LineWhy}
use Rattle.line_table.specs.declared.faults.LineFault.{LineFault}
use Rattle.line_table.specs.declared.faults.LineFault.TheVariants.{Bad}
use Rattle.line_table.specs.declared.faults.UnitFault.{UnitFault}
use Rattle.line_table.specs.declared.faults.UnitFault.TheVariants as UnitFaults
use Rattle.line_table.specs.declared.operations.Operation.{Operation}
use Rattle.line_table.specs.declared.rows.Row.{Row}
use Rattle.line_table.specs.declared.rows.Table.{Table}
use Rattle.elf_types.specs.Answers.{◌>>=◌}
use Rattle.line_table.specs.Reading.{Listed}
use Rattle.line_table.specs.Header.{UnitHeader}
use Rattle.line_table.specs.Program.{Instruction, operation_at, instruction_at, ops}
use Rattle.line_table.specs.Rows.{Effect, start, effect, rows_from, rows, names_added, all_names_added}
use Rattle.line_table.specs.Table.{stepped, turn}
use Rattle.line_table.specs.Units.{executed}
use Rattle.line_table.specs.Outcomes.{why_of, stated_fault, fault_at}
use Rattle.line_table.proofs.Lists.{Left, left_all, left_more, left_end, left_refused, left_item}

pub some_left : (bytes : List ℕ) → eqb (length bytes) 0 ≡ false → 0 < length bytes
some_left [] e = absurd cc
some_left (b ∷ bytes) e = omega arith

abbrev done : {A E : Type 0} → A → Result A E
done x = Ok x

done_same : {A E : Type 0} (x y : A) → done {E = E} x ≡ done y → x ≡ y
done_same x y e = cc

-- the parts of a value that two steps made
then_ok : {A B E : Type 0} (r : Result A E) (f : A → Result B E) (y : B) → (r >>= f) ≡ Ok y → (x : A) × (r ≡ Ok x) × (f x ≡ Ok y)
then_ok (Ok x) f y e = (x, refl, e)
then_ok (Err d) f y e = absurd cc

abbrev refused : {A E : Type 0} → E → Result A E
refused e = Err e

refused_same : {A E : Type 0} (x y : E) → refused {A = A} x ≡ refused y → x ≡ y
refused_same x y e = cc

-- a step that is refused, before one that is not
then_err : {A B E : Type 0} (r : Result A E) (f : A → B) (d : E) → (r >>= λ x. Ok (f x)) ≡ Err d → r ≡ Err d
then_err (Ok x) f d e = absurd cc
then_err {A} {B} (Err c) f d e = ap refused (refused_same {A = B} c d e)

-- the rows of instructions and of those after them
then_rows : (r : Result (List Row) LineFault) (a b : List Row) → (r >>= (λ l. Ok (b ++ l)) >>= λ l. Ok (a ++ l)) ≡ (r >>= λ l. Ok ((a ++ b) ++ l))
then_rows (Ok l) a b = ap (λ (rows : List Row). done rows) (sym (append_assoc a b l))
then_rows (Err e) a b = refl

no_rows : (r : Result (List Row) LineFault) → r ≡ (r >>= λ l. Ok ([] ++ l))
no_rows (Ok l) = refl
no_rows (Err e) = refl

names-push : (front : List Instruction) (i : Instruction) → all_names_added (front ++ i ∷ []) ≡ all_names_added front ++ names_added i.operation
names-push [] i = append-nil (names_added i.operation)
names-push (j ∷ front) i = ap (λ (names : List (List ℕ)). names_added j.operation ++ names) (names-push front i) ∙ sym (append_assoc (names_added j.operation) (all_names_added front) (names_added i.operation))

-- some instructions were executed, and the others are left
pub record Running (u : UnitHeader) (end : ℕ) (files : List (List ℕ)) (whole : Listed Instruction LineFault) (bytes : List ℕ) (t : Table) : Type 0 where
  pub front : List Instruction
  pub left : Left (instruction_at u end) bytes front whole
  pub ran : (later : List Instruction) → rows_from u (start u) (front ++ later) ≡ (rows_from u t.registers later >>= λ l. Ok (t.rows ++ l))
  pub named : t.files ≡ files ++ all_names_added front

pub running_start : (u : UnitHeader) (at : ℕ) (files : List (List ℕ)) (program : List ℕ) → Running u (at + length program) files (ops u at program) program (record { registers = start u; files = files; rows = [] })
unfolding ops
running_start u at files program = record {
  front = [];
  left = left_all (instruction_at u (at + length program)) program;
  ran = λ later. no_rows (rows_from u (start u) later);
  named = sym (append-nil files);
}

module _ (u : UnitHeader) (end : ℕ) where
  -- the instruction at the front of bytes
  here : List ℕ → Operation → Instruction
  here bytes operation = record { place = end - length bytes; operation = operation }

  instruction_ok : (bytes rest : List ℕ) (operation : Operation) → 0 < length bytes → operation_at u bytes ≡ Ok (operation, rest) → instruction_at u end bytes ≡ Ok (Some (here bytes operation), rest)
  unfolding instruction_at here
  instruction_ok [] rest operation lt e = absurd (omega arith)
  instruction_ok (b ∷ bytes) rest operation lt e = rw e refl

  instruction_err : (bytes : List ℕ) (why : LineWhy) → 0 < length bytes → operation_at u bytes ≡ Err why → instruction_at u end bytes ≡ Err (Bad (end - length bytes) why)
  unfolding instruction_at
  instruction_err [] why lt e = absurd (omega arith)
  instruction_err (b ∷ bytes) why lt e = rw e refl

  instruction_none : (bytes : List ℕ) → length bytes ≡ 0 → instruction_at u end bytes ≡ Ok (None, [])
  unfolding instruction_at
  instruction_none [] e = refl
  instruction_none (b ∷ bytes) e = absurd (omega arith)

  -- the table after an instruction that was executed
  after_one : (t : Table) (operation : Operation) (e : Effect) → Table
  after_one t operation e = record { registers = e.registers; files = t.files ++ names_added operation; rows = t.rows ++ option_to_list e.row }

  step_more : (files : List (List ℕ)) (whole : Listed Instruction LineFault) (bytes rest : List ℕ) (t : Table) (operation : Operation) (e : Effect) → Running u end files whole bytes t
      → 0 < length bytes → operation_at u bytes ≡ Ok (operation, rest) → effect u t.registers operation ≡ Ok e → length rest < length bytes → Running u end files whole rest (after_one t operation e)
  unfolding here after_one
  step_more files whole bytes rest t operation e r lt read executed shorter =
      let i : Instruction = here bytes operation in
      record {
        front = r.front ++ i ∷ [];
        left = left_more (instruction_at u end) bytes r.front whole i rest r.left (instruction_ok bytes rest operation lt read) shorter;
        ran = λ later.
            ap (rows_from u (start u)) (append_assoc r.front (i ∷ []) later) ∙ r.ran (i ∷ later)
            ∙ ap (λ (q : Result (List Row) LineFault). q >>= λ l. Ok (t.rows ++ l)) (first_row bytes t operation e later executed)
            ∙ then_rows (rows_from u e.registers later) t.rows (option_to_list e.row);
        named =
            ap (λ (names : List (List ℕ)). names ++ names_added operation) r.named ∙ append_assoc files (all_names_added r.front) (names_added operation)
            ∙ ap (λ (names : List (List ℕ)). files ++ names) (sym (names-push r.front i));
      }
    where
      first_row : (bytes : List ℕ) (t : Table) (operation : Operation) (e : Effect) (later : List Instruction) → effect u t.registers operation ≡ Ok e
          → rows_from u t.registers (here bytes operation ∷ later) ≡ (rows_from u e.registers later >>= λ l. Ok (option_to_list e.row ++ l))
      first_row bytes t operation e later executed = rw executed refl

  -- the same, of what is equal to the table and to the bytes after the instruction
  step_more_is : (files : List (List ℕ)) (whole : Listed Instruction LineFault) (bytes read_to rest : List ℕ) (t made after : Table) (operation : Operation) (e : Effect) → Running u end files whole bytes t
      → 0 < length bytes → operation_at u bytes ≡ Ok (operation, read_to) → effect u t.registers operation ≡ Ok e → after_one t operation e ≡ made → read_to ≡ rest → made ≡ after → length rest < length bytes
      → Running u end files whole rest after
  step_more_is files whole bytes read_to rest t made after operation e r lt read executed table same_rest same_table shorter =
      subst (λ (x : Table). Running u end files whole rest x) (table ∙ same_table) (step_more files whole bytes rest t operation e r lt (read ∙ ap (λ (x : List ℕ). done (operation, x)) same_rest) executed shorter)

  pub running_more : (files : List (List ℕ)) (whole : Listed Instruction LineFault) (bytes rest : List ℕ) (t after : Table) → Running u end files whole bytes t → 0 < length bytes
      → turn u t bytes ≡ Ok (after, rest) → length rest < length bytes → Running u end files whole rest after
  unfolding turn after_one
  running_more files whole bytes rest t after r lt h shorter =
      let a = then_ok (operation_at u bytes) (λ o. stepped u t o.0 >>= λ table. Ok (table, o.1)) (after, rest) h in
      let b = then_ok (stepped u t a.0.0) (λ table. Ok (table, a.0.1)) (after, rest) a.2 in
      let d = then_ok (effect u t.registers a.0.0) (λ e. Ok (after_one t a.0.0 e)) b.0 b.1 in
      let parts = done_same {E = LineWhy} (b.0, a.0.1) (after, rest) b.2 in
      let table = done_same {E = LineWhy} (after_one t a.0.0 d.0) b.0 d.2 in
      step_more_is files whole bytes a.0.1 rest t b.0 after a.0.0 d.0 r lt a.1 d.1 table (ap (λ (p : Table × List ℕ). p.1) parts) (ap (λ (p : Table × List ℕ). p.0) parts) shorter

  -- what was executed, whichever way the list of instructions goes on
  made_of : List (List ℕ) → Listed Instruction LineFault → Result (List (List ℕ) × List Row) LineFault
  made_of files whole = rows u whole.items >>= λ table. whole.after >>= λ _. Ok (files ++ all_names_added whole.items, table)

  made_is : (at : ℕ) (files : List (List ℕ)) (program : List ℕ) (whole : Listed Instruction LineFault) → ops u at program ≡ whole → executed u at files program ≡ made_of files whole
  unfolding executed made_of
  made_is at files program whole e = ap (made_of files) e

  rows_so_far : (files : List (List ℕ)) (whole : Listed Instruction LineFault) (bytes : List ℕ) (t : Table) (r : Running u end files whole bytes t) → rows u r.front ≡ Ok t.rows
  unfolding rows
  rows_so_far files whole bytes t r =
      ap (rows_from u (start u)) (sym (append-nil r.front)) ∙ r.ran [] ∙ ap (λ (l : List Row). done l) (append-nil t.rows)

  pub running_end : (at : ℕ) (files : List (List ℕ)) (program bytes : List ℕ) (t : Table) → Running u end files (ops u at program) bytes t → length bytes ≡ 0 → executed u at files program ≡ Ok (t.files, t.rows)
  unfolding made_of
  running_end at files program bytes t r none =
      let whole = left_end (instruction_at u end) bytes r.front (ops u at program) [] r.left (instruction_none bytes none) in
      made_is at files program (record { items = r.front; after = Ok [] }) whole
      ∙ ap (λ (q : Result (List Row) LineFault). q >>= λ table. Ok (files ++ all_names_added r.front, table)) (rows_so_far files (ops u at program) bytes t r)
      ∙ ap (λ (names : List (List ℕ)). done (names, t.rows)) (sym r.named)

  -- the grammar stops
  stopped_reading : (why : LineWhy) (at : ℕ) (files : List (List ℕ)) (program bytes : List ℕ) (t : Table) → Running u end files (ops u at program) bytes t → 0 < length bytes
      → operation_at u bytes ≡ Err why → executed u at files program ≡ Err (Bad (end - length bytes) why)
  unfolding made_of
  stopped_reading why at files program bytes t r lt e =
      let fault : LineFault = Bad (end - length bytes) why in
      let whole = left_refused (instruction_at u end) bytes r.front (ops u at program) fault r.left (instruction_err bytes why lt e) in
      made_is at files program (record { items = r.front; after = Err fault }) whole
      ∙ ap (λ (q : Result (List Row) LineFault). q >>= λ table. Err fault) (rows_so_far files (ops u at program) bytes t r)

  -- the fold stops
  stopped_executing : (why : LineWhy) (at : ℕ) (files : List (List ℕ)) (program bytes rest : List ℕ) (operation : Operation) (t : Table) → Running u end files (ops u at program) bytes t → 0 < length bytes
      → operation_at u bytes ≡ Ok (operation, rest) → effect u t.registers operation ≡ Err why → executed u at files program ≡ Err (Bad (end - length bytes) why)
  unfolding made_of rows here
  stopped_executing why at files program bytes rest operation t r lt e h =
      let later = left_item (instruction_at u end) bytes r.front (ops u at program) (here bytes operation) rest r.left (instruction_ok bytes rest operation lt e) in
      let whole : Listed Instruction LineFault = record { items = r.front ++ here bytes operation ∷ later.0.items; after = later.0.after } in
      made_is at files program whole later.1
      ∙ ap (λ (q : Result (List Row) LineFault). q >>= λ table. whole.after >>= λ _. Ok (files ++ all_names_added whole.items, table))
      (r.ran (here bytes operation ∷ later.0.items) ∙ ap (λ (q : Result (List Row) LineFault). q >>= λ l. Ok (t.rows ++ l)) (no_row bytes t operation later.0.items why h))
    where
      no_row : (bytes : List ℕ) (t : Table) (operation : Operation) (later : List Instruction) (why : LineWhy) → effect u t.registers operation ≡ Err why
          → rows_from u t.registers (here bytes operation ∷ later) ≡ Err (Bad (end - length bytes) why)
      no_row bytes t operation later why h = rw h refl

  pub running_stopped : (e : UnitFault) (at : ℕ) (files : List (List ℕ)) (program bytes : List ℕ) (t : Table) → Running u end files (ops u at program) bytes t → 0 < length bytes
      → IfSome (why_of e) (λ w. turn u t bytes ≡ Err w) → IfSome (stated_fault (fault_at e (end - length bytes))) (λ f. executed u at files program ≡ Err f)
  unfolding turn
  running_stopped UnitFaults.Memory at files program bytes t r lt h = tt
  running_stopped (UnitFaults.Why why) at files program bytes t r lt h = stopped (operation_at u bytes) refl
    where
      goes : Result (Operation × List ℕ) LineWhy → Result (Table × List ℕ) LineWhy
      goes o = o >>= λ x. stepped u t x.0 >>= λ table. Ok (table, x.1)

      stopped : (o : Result (Operation × List ℕ) LineWhy) → operation_at u bytes ≡ o → executed u at files program ≡ Err (Bad (end - length bytes) why)
      stopped (Err w) e = stopped_reading why at files program bytes t r lt (e ∙ ap (λ (v : LineWhy). refused v) (refused_same {A = Table × List ℕ} w why (sym (ap goes e) ∙ h)))
      stopped (Ok x) e =
          let k = then_err (stepped u t x.0) (λ table. (table, x.1)) why (sym (ap goes e) ∙ h) in
          stopped_executing why at files program bytes x.1 x.0 t r lt e (then_err (effect u t.registers x.0) (λ e. record { registers = e.registers; files = t.files ++ names_added x.0; rows = t.rows ++ option_to_list e.row }) why k)
