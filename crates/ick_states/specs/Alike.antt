-- Defines which kept states are equal, by their parts: spare room, and what no state has of a status, don't matter.
use Rattle.std.specs.Prelude.{ℕ, ◌≡◌, map, min}
use Rattle.ick_runtime.specs.{declared.memory.Parts.Parts, Status.is_abstained, View.array_of, View.is_hidden}
use Rattle.ick_marks.specs.declared.saved.Saved.{Saved}
use Rattle.ick_marks.specs.Saved.{arrays_on, numbers_on}

-- the parts that few instructions change are equal, over an input of so many bytes
pub record AreAlikeRests (long : ℕ) (p q : Parts) : Type 0 where
  pub arrays : map array_of p.arrays.items ≡ map array_of q.arrays.items
  pub hidden : map is_hidden p.arrays.items ≡ map is_hidden q.arrays.items
  pub scalar_stashes : map numbers_on p.scalar_stashes.items ≡ map numbers_on q.scalar_stashes.items
  pub array_stashes : map arrays_on p.array_stashes.items ≡ map arrays_on q.array_stashes.items
  pub taken : min p.taken long ≡ min q.taken long
  pub output : p.output.items ≡ q.output.items
  pub last : p.last ≡ q.last
  pub lastin : p.lastin ≡ q.lastin

pub record AreAlike (long : ℕ) (p q : Saved) : Type 0 where
  pub place : p.place ≡ q.place
  pub numbers : p.numbers.items ≡ q.numbers.items
  pub store_target : p.store_target.items ≡ q.store_target.items
  pub abstained : map is_abstained p.statuses.items ≡ map is_abstained q.statuses.items
  pub returns : p.returns.items ≡ q.returns.items
  pub rest : AreAlikeRests long p.rest q.rest
