-- How a function draws and writes: the text of what it drew goes into the writer's buffer, the seed
-- on.
use Rattle.std.specs.Prelude.{◌≡◌, ℕ, List}
use Rattle.text.specs.declared.Writer.{Writer}
use Rattle.text.specs.Emit.{Writes}
use Rattle.practice.specs.Practice.{Drawn}

pub record WritesDrawn {A : Type 0} (text : A → List ℕ) (drawn : Drawn A) (before after : Writer)
    (next : ℕ) : Type 0 where
  pub writes : Writes (text drawn.value) before after
  pub seed : next ≡ drawn.seed
