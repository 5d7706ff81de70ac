-- How the machine holds a store, an answer and any other struct.
use mathlib.Core.Path.{◌≡◌, ap}
use mathlib.Core.List.{List, [], ◌∷◌, map}
use mir.Val.{Val, vunit}
use denote.Array.{array_val}
use denote.Laws.{Is}
use denote.Struct.Declared.{Declared, row}
use denote.Struct.Laws as LL
use denote.Struct.Laws.{Laws}
use Rattle.store.specs.declared.Answer.{Answer}
use Rattle.store.specs.declared.Store.{Store}
use Rattle.store.specs.contracts.Answer as R
use Rattle.store.proofs.Answer.TheLaws as R'
use Rattle.store.proofs.Slot.TheLaws as Q'
use Rattle.store.specs.contracts.Store as S
use Rattle.store.proofs.Store.TheLaws as S'

-- A store, as the machine holds it.
abbrev pub store_val : Store → Val
store_val s = LL.tuple_val S.the_type S'.the_laws ((S.the_type).to s)

-- A store's slots, as they lie in it.
abbrev pub slots_val : Store → Val
slots_val s = array_val (map (Q'.the_told).val s.slots)

-- An answer.
abbrev pub answer_val : Answer → Val
answer_val a = LL.tuple_val R.the_type R'.the_laws ((R.the_type).to a)

-- The first of some values.
hd : List Val → Val
hd [] = vunit
hd (v ∷ vs) = v

-- A value that is a struct's is the one spelled by its fields.
pub spelled : (T : Declared) (L : Laws T) (x : T.D) (u : Val) → Is (row T) x (u ∷ []) → u ≡ LL.tuple_val T L (T.to x)
unfolding hd
spelled T L x u is = ap hd (LL.tells T L x (u ∷ []) is)
