-- The memory form of bytes of each kind, as a list of what stands at each place; an item of each kind has bytes.
use Rattle.std.proofs.Common.{◌≡◌, ℕ, ◌<◌, List, refl, arith}
use Rattle.std.specs.Option.{option_map}
use Rattle.elf_types.specs.declared.records.Class.{Class}
use Rattle.elf_types.specs.declared.records.Class.TheVariants.{C32, C64}
use Rattle.elf_types.specs.declared.records.Order.{Order}
use Rattle.elf_types.specs.declared.records.Kind.TheVariants as kinds
use Rattle.elf_xlate.specs.declared.content.Items.TheVariants.{Half, Word, Addr, Sym, Rel, Rela, Dyn}
use Rattle.elf_xlate.specs.Items.{item_size, half_of, word_of, addr_of, sym_of, rel_of, rela_of, dyn_of}
use Rattle.elf_xlate.specs.Translation.{listed, decoded}

pub half_decoded : (class : Class) (order : Order) (bytes : List ℕ) → decoded kinds.Half class order bytes ≡ option_map Half (listed (half_of class order) (item_size kinds.Half class) bytes)
unfolding decoded
half_decoded class order bytes = refl

pub word_decoded : (class : Class) (order : Order) (bytes : List ℕ) → decoded kinds.Word class order bytes ≡ option_map Word (listed (word_of class order) (item_size kinds.Word class) bytes)
unfolding decoded
word_decoded class order bytes = refl

pub addr_decoded : (class : Class) (order : Order) (bytes : List ℕ) → decoded kinds.Addr class order bytes ≡ option_map Addr (listed (addr_of class order) (item_size kinds.Addr class) bytes)
unfolding decoded
addr_decoded class order bytes = refl

pub sym_decoded : (class : Class) (order : Order) (bytes : List ℕ) → decoded kinds.Sym class order bytes ≡ option_map Sym (listed (sym_of class order) (item_size kinds.Sym class) bytes)
unfolding decoded
sym_decoded class order bytes = refl

pub rel_decoded : (class : Class) (order : Order) (bytes : List ℕ) → decoded kinds.Rel class order bytes ≡ option_map Rel (listed (rel_of class order) (item_size kinds.Rel class) bytes)
unfolding decoded
rel_decoded class order bytes = refl

pub rela_decoded : (class : Class) (order : Order) (bytes : List ℕ) → decoded kinds.Rela class order bytes ≡ option_map Rela (listed (rela_of class order) (item_size kinds.Rela class) bytes)
unfolding decoded
rela_decoded class order bytes = refl

pub dyn_decoded : (class : Class) (order : Order) (bytes : List ℕ) → decoded kinds.Dyn class order bytes ≡ option_map Dyn (listed (dyn_of class order) (item_size kinds.Dyn class) bytes)
unfolding decoded
dyn_decoded class order bytes = refl

pub half_sized : (class : Class) → 0 < item_size kinds.Half class
half_sized C32 = omega arith
half_sized C64 = omega arith

pub word_sized : (class : Class) → 0 < item_size kinds.Word class
word_sized C32 = omega arith
word_sized C64 = omega arith

pub addr_sized : (class : Class) → 0 < item_size kinds.Addr class
addr_sized C32 = omega arith
addr_sized C64 = omega arith

pub sym_sized : (class : Class) → 0 < item_size kinds.Sym class
sym_sized C32 = omega arith
sym_sized C64 = omega arith

pub rel_sized : (class : Class) → 0 < item_size kinds.Rel class
rel_sized C32 = omega arith
rel_sized C64 = omega arith

pub rela_sized : (class : Class) → 0 < item_size kinds.Rela class
rela_sized C32 = omega arith
rela_sized C64 = omega arith

pub dyn_sized : (class : Class) → 0 < item_size kinds.Dyn class
dyn_sized C32 = omega arith
dyn_sized C64 = omega arith
