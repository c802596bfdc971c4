-- The bytes of files, by a map from names to bytes.
use Rattle.std.proofs.Common.{◌≡◌, ◌+◌, ◌≤◌, ◌<◌, ◌++◌, ◌∷◌, ℕ, List, [], length, take, drop, get_or, codes, Option, Some, None, Result, Ok, Err, refl, sym, ap, ◌∙◌, arith, append_assoc, append-nil}
use Rattle.std.proofs.lemmas.List.{take_all, take_more, take-append-drop}
use Rattle.elf_types.specs.Answers.{or_refused, ◌>>=◌}
use Rattle.elf_outside.specs.Names.{Map}
use Rattle.rebuild_changes.specs.declared.options.NamedFile.{NamedFile}
use Rattle.tool_output.specs.Made.{Complaint, complaint}
use Rattle.rebuild_files.specs.elfkit_outcomes.Files.{bytes_named, bytes_of_each}
use Rattle.copy_tool.specs.Files.{length_held, lengths_named, with_file, onto}

abbrev pub NamedPairs : Type 0
NamedPairs = List (List ℕ × List ℕ)

abbrev pub ReadPairs : Type 0
ReadPairs = Result NamedPairs Complaint

-- two maps have the same at each name
abbrev pub SameMap : Map → Map → Type 0
SameMap m n = (name : List ℕ) → n name ≡ m name

-- ---- One name

pub bytes_are_there : (m : Map) (file bytes : List ℕ) → m file ≡ Some bytes
    → bytes_named m file ≡ Ok bytes
unfolding bytes_named
bytes_are_there m file bytes is =
    ap (λ (held : Option (List ℕ)). or_refused held (complaint file (codes "not found"))) is

pub bytes_are_absent : (m : Map) (file : List ℕ) → m file ≡ None
    → bytes_named m file ≡ Err (complaint file (codes "not found"))
unfolding bytes_named
bytes_are_absent m file is =
    ap (λ (held : Option (List ℕ)). or_refused held (complaint file (codes "not found"))) is

pub bytes_are_same : (m n : Map) (file : List ℕ) → n file ≡ m file
    → bytes_named n file ≡ bytes_named m file
unfolding bytes_named
bytes_are_same m n file same =
    ap (λ (held : Option (List ℕ)). or_refused held (complaint file (codes "not found"))) same

-- ---- One after another

-- the bytes of a file before those of others
abbrev first_pair : NamedFile → Result (List ℕ) Complaint → ReadPairs → ReadPairs
first_pair f p q = p >>= λ bytes. q >>= λ others. Ok ((f.name, bytes) ∷ others)

each_none : (m : Map) → bytes_of_each m [] ≡ Ok []
unfolding bytes_of_each
each_none m = refl

each_cons : (m : Map) (f : NamedFile) (list : List NamedFile)
    → bytes_of_each m (f ∷ list) ≡ first_pair f (bytes_named m f.file) (bytes_of_each m list)
unfolding bytes_of_each
each_cons m f list = refl

pub each_same : (m n : Map) → SameMap m n → (list : List NamedFile)
    → bytes_of_each n list ≡ bytes_of_each m list
each_same m n same [] = each_none n ∙ sym (each_none m)
each_same m n same (f ∷ list) =
    each_cons n f list
    ∙ ap (λ (p : Result (List ℕ) Complaint). first_pair f p (bytes_of_each n list))
    (bytes_are_same m n f.file (same f.file))
    ∙ ap (λ (q : ReadPairs). first_pair f (bytes_named m f.file) q) (each_same m n same list)
    ∙ sym (each_cons m f list)

shift : (before : NamedPairs) (pair : List ℕ × List ℕ) (q : ReadPairs)
    → onto before (q >>= λ others. Ok (pair ∷ others)) ≡ onto (before ++ pair ∷ []) q
shift before pair (Ok others) =
    ap (λ (l : NamedPairs). Ok l) (sym (append_assoc before (pair ∷ []) others))
shift before pair (Err c) = refl

pub onto_none : (q : ReadPairs) → q ≡ onto [] q
onto_none (Ok list) = refl
onto_none (Err c) = refl

pub each_append : (m : Map) (before : NamedPairs) (xs ys : List NamedFile)
    → onto before (bytes_of_each m (xs ++ ys))
    ≡ (onto before (bytes_of_each m xs) >>= λ list. onto list (bytes_of_each m ys))
each_append m before [] ys =
    ap (λ (b : NamedPairs). onto b (bytes_of_each m ys)) (sym (append-nil before))
    ∙ sym (ap (λ (q : ReadPairs). onto before q >>= λ list. onto list (bytes_of_each m ys))
    (each_none m))
each_append m before (f ∷ xs) ys =
    ap (λ (q : ReadPairs). onto before q) (each_cons m f (xs ++ ys))
    ∙ by (bytes_named m f.file) (λ b. each_append m b xs ys)
    ∙ sym (ap (λ (q : ReadPairs). onto before q >>= λ list. onto list (bytes_of_each m ys))
    (each_cons m f xs))
  where
    by : (p : Result (List ℕ) Complaint) → ((b : NamedPairs) → onto b (bytes_of_each m (xs ++ ys))
        ≡ (onto b (bytes_of_each m xs) >>= λ list. onto list (bytes_of_each m ys)))
        → onto before (first_pair f p (bytes_of_each m (xs ++ ys)))
        ≡ (onto before (first_pair f p (bytes_of_each m xs))
        >>= λ list. onto list (bytes_of_each m ys))
    by (Err c) rest = refl
    by (Ok bytes) rest =
        shift before (f.name, bytes) (bytes_of_each m (xs ++ ys))
        ∙ rest (before ++ (f.name, bytes) ∷ [])
        ∙ sym (ap (λ (q : ReadPairs). q >>= λ list. onto list (bytes_of_each m ys))
        (shift before (f.name, bytes) (bytes_of_each m xs)))

one_file : (m : Map) (before : NamedPairs) (f : NamedFile)
    → onto before (bytes_of_each m (f ∷ [])) ≡ with_file before f m
one_file m before f =
    ap (λ (q : ReadPairs). onto before q)
    (each_cons m f []
    ∙ ap (λ (q : ReadPairs). first_pair f (bytes_named m f.file) q) (each_none m))
    ∙ by (bytes_named m f.file)
  where
    by : (p : Result (List ℕ) Complaint) → onto before (first_pair f p (Ok []))
        ≡ (p >>= λ bytes. Ok (before ++ (f.name, bytes) ∷ []))
    by (Ok bytes) = refl
    by (Err c) = refl

pub with_file_same : (before : NamedPairs) (f : NamedFile) (m n : Map) → SameMap m n
    → with_file before f n ≡ with_file before f m
with_file_same before f m n same =
    ap (λ (p : Result (List ℕ) Complaint). p >>= λ bytes. Ok (before ++ (f.name, bytes) ∷ []))
    (bytes_are_same m n f.file (same f.file))

-- ---- How many

lengths_none : (m : Map) → lengths_named m [] ≡ 0
unfolding lengths_named
lengths_none m = refl

lengths_cons : (m : Map) (f : NamedFile) (list : List NamedFile)
    → lengths_named m (f ∷ list) ≡ length_held (m f.file) + lengths_named m list
unfolding lengths_named
lengths_cons m f list = refl

pub lengths_same : (m n : Map) → SameMap m n → (list : List NamedFile)
    → lengths_named n list ≡ lengths_named m list
lengths_same m n same [] = lengths_none n ∙ sym (lengths_none m)
lengths_same m n same (f ∷ list) =
    lengths_cons n f list
    ∙ ap (λ (held : Option (List ℕ)). length_held held + lengths_named n list) (same f.file)
    ∙ ap (λ (k : ℕ). length_held (m f.file) + k) (lengths_same m n same list)
    ∙ sym (lengths_cons m f list)

sum_moves : (p q r s x y : ℕ) → s ≡ q + r → x ≡ p + s → y ≡ p + q → x ≡ y + r
sum_moves p q r s x y h k l = omega (arith, h, k, l)

none_before : (k n : ℕ) → k ≡ 0 → n ≡ k + n
none_before k n is = omega (arith, is)

lengths_append : (m : Map) (xs ys : List NamedFile)
    → lengths_named m (xs ++ ys) ≡ lengths_named m xs + lengths_named m ys
lengths_append m [] ys =
    none_before (lengths_named m []) (lengths_named m ys) (lengths_none m)
lengths_append m (f ∷ xs) ys =
    sum_moves (length_held (m f.file)) (lengths_named m xs) (lengths_named m ys)
    (lengths_named m (xs ++ ys)) (lengths_named m (f ∷ (xs ++ ys))) (lengths_named m (f ∷ xs))
    (lengths_append m xs ys) (lengths_cons m f (xs ++ ys)) (lengths_cons m f xs)

-- ---- The first files of a list

abbrev pub read_upto : NamedPairs → List NamedFile → ℕ → Map → ReadPairs
read_upto before list i m = onto before (bytes_of_each m (take i list))

abbrev pub due_upto : List NamedFile → ℕ → Map → ℕ
due_upto list i m = lengths_named m (take i list)

module _ (before : NamedPairs) (list : List NamedFile) (m : Map) where
  pub upto_none : read_upto before list 0 m ≡ Ok before
  upto_none =
      ap (λ (q : ReadPairs). onto before q) (each_none m)
      ∙ ap (λ (l : NamedPairs). Ok l) (append-nil before)

  pub upto_all : (i : ℕ) → length list ≤ i
      → onto before (bytes_of_each m list) ≡ read_upto before list i m
  upto_all i past =
      ap (λ (l : List NamedFile). onto before (bytes_of_each m l)) (sym (take_all i list past))

  pub upto_left : (i : ℕ) → onto before (bytes_of_each m list)
      ≡ (read_upto before list i m >>= λ read. onto read (bytes_of_each m (drop i list)))
  upto_left i =
      ap (λ (l : List NamedFile). onto before (bytes_of_each m l))
      (sym (take-append-drop i list))
      ∙ each_append m before (take i list) (drop i list)

  pub due_left : (i : ℕ) → due_upto list i m ≤ lengths_named m list
  due_left i =
      let all : lengths_named m list
      ≡ lengths_named m (take i list) + lengths_named m (drop i list) =
      ap (λ (l : List NamedFile). lengths_named m l) (sym (take-append-drop i list))
      ∙ lengths_append m (take i list) (drop i list) in
      omega (arith, all)

  module _ (i : ℕ) (f : NamedFile) (lt : i < length list) (item : f ≡ get_or list i f) where
    one_more : take (i + 1) list ≡ take i list ++ f ∷ []
    one_more =
        take_more list i f lt
        ∙ ap (λ (x : NamedFile). take i list ++ x ∷ []) (sym item)

    pub upto_more : read_upto before list (i + 1) m
        ≡ (read_upto before list i m >>= λ read. with_file read f m)
    upto_more =
        ap (λ (l : List NamedFile). onto before (bytes_of_each m l)) one_more
        ∙ each_append m before (take i list) (f ∷ [])
        ∙ by (read_upto before list i m)
      where
        by : (q : ReadPairs) → (q >>= λ read. onto read (bytes_of_each m (f ∷ [])))
            ≡ (q >>= λ read. with_file read f m)
        by (Ok read) = one_file m read f
        by (Err c) = refl

    pub due_more : due_upto list i m + length_held (m f.file) ≤ due_upto list (i + 1) m
    due_more =
        let all : lengths_named m (take (i + 1) list)
        ≡ lengths_named m (take i list) + lengths_named m (f ∷ []) =
        ap (λ (l : List NamedFile). lengths_named m l) one_more
        ∙ lengths_append m (take i list) (f ∷ []) in
        let last : lengths_named m (f ∷ []) ≡ length_held (m f.file) + lengths_named m [] =
        lengths_cons m f [] in
        at_most (lengths_named m (take i list)) (length_held (m f.file))
        (lengths_named m []) (lengths_named m (f ∷ []))
        (lengths_named m (take (i + 1) list)) all last
      where
        at_most : (p q r s x : ℕ) → x ≡ p + s → s ≡ q + r → p + q ≤ x
        at_most p q r s x h k = omega (arith, h, k)
