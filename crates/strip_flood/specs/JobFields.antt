-- Bookkeeping: the fields of a strip's job.
use Rattle.std.specs.Prelude.{◌≡◌, ℕ, ◌*◌, Bool, false, length}
use Rattle.strip_flood.specs.declared.strip.Strip.{Strip}
use Rattle.strip_flood.specs.declared.flood.Flood.{Flood}
use Rattle.strip_flood.specs.Jobs.{JobView, IsStandingWhereFlooded}
use Rattle.strip_flood.specs.Strips.{ranked_values, IsStrip, IsFresh}

-- what contracts see of these fields
abbrev pub view_of : ℕ → ℕ → ℕ → ℕ → Strip → Flood → Bool → JobView
view_of width height first_row end_row strip flood flooded = record {
  width = width;
  height = height;
  connect = strip.connect;
  first_row = first_row;
  end_row = end_row;
  values = ranked_values strip.levels.items strip.ranks.items;
  flooded = flooded;
  links = flood.links.items;
}

-- what is true of the fields of each job
pub record HasJobFields (width height first_row end_row : ℕ) (strip : Strip) (flood : Flood) (flooded : Bool) : Type 0 where
  pub known : IsStrip strip
  pub sides : strip.width ≡ width
  pub start : strip.first ≡ first_row * width
  pub links_length : length flood.links.items ≡ length strip.ranks.items
  pub fresh : flooded ≡ false → IsFresh (length strip.ranks.items) (length strip.levels.items) flood
  pub standing : IsStandingWhereFlooded (view_of width height first_row end_row strip flood flooded)
