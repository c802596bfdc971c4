-- Looking a symbol up by its name (elf_hash(3E); gABI chapter 5, "Hash Table"; GNU's hash section):
-- the calls, in the form of the calls of the plain object. All of them look at piece 0 of a
-- section.
use Rattle.std.specs.Prelude.{ℕ, Bool, true, false, not, ◌||◌, List, [], ◌∷◌, slice_index_or, Option, None, Result, Ok, Err, IsTrue}
use Rattle.std.specs.List.{list_any}
use Rattle.elf_types.specs.Answers.{answered, first_refusal, ◌>>=◌}
use Rattle.elf_types.specs.declared.records.Kind.TheVariants as kinds
use Rattle.elf_types.specs.declared.errors.ElfError.{ElfError}
use Rattle.elf_types.specs.declared.errors.ElfError.TheVariants.{Memory, Read, BadChain}
use Rattle.hash_model.specs.elf_object.Words.{Refusals, result_map}
use Rattle.hash_model.specs.elf_object.Object.{Object, section_at}
use Rattle.hash_model.specs.elf_object.Answers.{bytes_of, words_of, items_at, count_at, lend_refusal}
use Rattle.hash_model.specs.elf_object.Strings.{is_name}
use Rattle.hash_model.specs.elf_object.Due.{is_loaded, holds_items, unless_refused, when_clean, when_piece_clean, with_others}
use Rattle.hash_model.specs.elf_object.Calls.{Call}
use Rattle.hash_model.specs.Hashes as hashes
use Rattle.hash_model.specs.Listed.{listed_names, find_linear_answer}
use Rattle.symbol_lookup.specs.declared.walks.WalkStep.{WalkStep}
use Rattle.symbol_lookup.specs.declared.walks.Links.{Links}
use Rattle.symbol_lookup.specs.declared.walks.Links.TheVariants as links
use Rattle.symbol_lookup.specs.declared.walks.WalkStart.{WalkStart}
use Rattle.symbol_lookup.specs.declared.walks.Walk.{Walk}
use Rattle.symbol_lookup.specs.Walks.{sysv_start, sysv_next, gnu_start, gnu_next, walk_from, least_of, with_least}

-- ---- What a lookup may need

-- the homes that it may read, the tables whose entries it looks at one by one, and whether it may
-- meet a bad chain
pub record Needs : Type 0 where
  pub homes : List ℕ
  pub tables : List ℕ
  pub chain : Bool

-- it may want memory for a home that is not loaded, and for an entry of a table whose items are not
-- held
unfoldable pub needs_memory : Needs → Object → List Bool → List Bool → Bool
needs_memory n o loaded held =
    list_any (λ s. not (holds_items o held s 0)) n.tables
    || list_any (λ s. not (is_loaded loaded s)) n.homes

-- a call that is refused before it reads, or answers by what it finds
abbrev pub lookup : {A : Type 0} → (Object → Needs) → (Object → Option ElfError)
    → (Object → Result A ElfError) → Call A
lookup needs refusal answer = record {
  answer = answer;
  after = λ o. o;
  reads = λ o. unless_refused (refusal o) (needs o).homes;
  memory = λ o loaded held. needs_memory (needs o) o loaded held;
}

-- ---- Among all symbols

-- the section of a symbol table's strings, and the symbol table of a hash section
abbrev pub link_of : Object → ℕ → ℕ
link_of o s = (section_at o s).header.link

-- the homes of a symbol table and of its strings, each once
unfoldable pub table_homes : Object → ℕ → List ℕ
table_homes o s = with_others (when_piece_clean o s 0) (when_clean o (link_of o s))

unfoldable pub linear_needs : Object → ℕ → Needs
linear_needs o s = record { homes = table_homes o s; tables = s ∷ []; chain = false }

abbrev pub linear_refusal : Object → ℕ → Option ElfError
linear_refusal o s = lend_refusal o kinds.Sym s 0

abbrev pub find_linear : ℕ → List ℕ → Call (Option ℕ)
find_linear s name = lookup
    (λ o. linear_needs o s)
    (λ o. linear_refusal o s)
    (λ o. find_linear_answer o s name)

-- ---- On the chain of a bucket

-- whether a symbol of a section is listed by that name
unfoldable pub is_match : Object → ℕ → List ℕ → ℕ → Bool
is_match o s name i = is_name name (slice_index_or (listed_names o s) i None)

-- the step from a symbol, by the chain words of a hash section
unfoldable pub next_on : Object → ℕ → Links → ℕ → Result WalkStep ElfError
next_on o h (links.Sysv nbucket nchain) i = sysv_next (words_of (items_at o h 0)) nbucket nchain i
next_on o h (links.Gnu symoffset chains) i =
    gnu_next o.header.order (bytes_of (items_at o h 0)) symoffset chains i

-- a walk with one more symbol, which passes or does not, and the step from it
unfoldable pub walked_on : Object → ℕ → Links → Bool → Walk → Result Walk ElfError
walked_on o h links passes walk = result_map
    (λ step. record { best = with_least walk.best passes walk.step.symbol; step = step })
    (next_on o h links walk.step.symbol)

-- the least symbol with the name on the chain that begins there, whose symbols are those of s
unfoldable pub found_from : Object → ℕ → ℕ → List ℕ → WalkStart → Result (Option ℕ) ElfError
found_from o h s name start = result_map
    (least_of (is_match o s name))
    (walk_from (next_on o h start.links) (count_at o s 0) start.step.at start.step.symbol)

-- the words, or the bytes, of a hash section can be read, and the symbols to which it links
abbrev pub words_refusal : Object → ℕ → Option ElfError
words_refusal o h = lend_refusal o kinds.Word h 0

abbrev pub bytes_refusal : Object → ℕ → Option ElfError
bytes_refusal o h = lend_refusal o kinds.Bytes h 0

abbrev pub linked_refusal : Object → ℕ → Option ElfError
linked_refusal o h = lend_refusal o kinds.Sym (link_of o h) 0

unfoldable pub sysv_refusal : Object → ℕ → Option ElfError
sysv_refusal o h = first_refusal (words_refusal o h ∷ linked_refusal o h ∷ [])

unfoldable pub gnu_refusal : Object → ℕ → Option ElfError
gnu_refusal o h = first_refusal (bytes_refusal o h ∷ linked_refusal o h ∷ [])

unfoldable pub sysv_found : Object → ℕ → List ℕ → Result (Option ℕ) ElfError
sysv_found o h name =
    sysv_start (words_of (items_at o h 0)) (hashes.elf_hash name)
    >>= found_from o h (link_of o h) name

unfoldable pub gnu_found : Object → ℕ → List ℕ → Result (Option ℕ) ElfError
gnu_found o h name =
    gnu_start o.header.class o.header.order (bytes_of (items_at o h 0)) (hashes.gnu_hash name)
    >>= found_from o h (link_of o h) name

unfoldable pub find_sysv_answer : Object → ℕ → List ℕ → Result (Option ℕ) ElfError
find_sysv_answer o h name = answered (sysv_refusal o h) (tt {0}) >>= λ _. sysv_found o h name

unfoldable pub find_gnu_answer : Object → ℕ → List ℕ → Result (Option ℕ) ElfError
find_gnu_answer o h name = answered (gnu_refusal o h) (tt {0}) >>= λ _. gnu_found o h name

-- the homes of a hash section, of its symbol table and of that table's strings, each once
unfoldable pub hash_homes : Object → ℕ → List ℕ
hash_homes o h = with_others (when_piece_clean o h 0) (table_homes o (link_of o h))

unfoldable pub sysv_needs : Object → ℕ → Needs
sysv_needs o h =
    record { homes = hash_homes o h; tables = h ∷ link_of o h ∷ []; chain = true }

unfoldable pub gnu_needs : Object → ℕ → Needs
gnu_needs o h = record { homes = hash_homes o h; tables = link_of o h ∷ []; chain = true }

abbrev pub find_sysv : ℕ → List ℕ → Call (Option ℕ)
find_sysv h name = lookup
    (λ o. sysv_needs o h)
    (λ o. sysv_refusal o h)
    (λ o. find_sysv_answer o h name)

abbrev pub find_gnu : ℕ → List ℕ → Call (Option ℕ)
find_gnu h name = lookup
    (λ o. gnu_needs o h)
    (λ o. bytes_refusal o h)
    (λ o. find_gnu_answer o h name)

-- ---- Refusals

-- in place of a word, any other refusal than these is a bad chain at its place
unfoldable pub or_bad : ℕ → ElfError → ElfError
or_bad at Memory = Memory
or_bad at Read = Read
or_bad at e = BadChain at

-- a symbol, or a string, that is refused is no match
unfoldable pub no_match : ElfError → Result Bool ElfError
no_match Memory = Err Memory
no_match Read = Err Read
no_match e = Ok false

abbrev pub is_bad_chain : ElfError → Bool
is_bad_chain (BadChain at) = true
is_bad_chain _ = false

abbrev pub IsBad : ElfError → Type 0
IsBad e = IsTrue (is_bad_chain e)

-- early refusals come over every source, some of them before a read, and a bad chain is met in the
-- bytes
abbrev pub chain_refusals : Option ElfError → Option ElfError → Refusals
chain_refusals unread early =
    record { unread = unread; early = early; met = IsBad }
