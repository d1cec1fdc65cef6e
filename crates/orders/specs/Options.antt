-- Model: the commands, their options, and what the values of these are.
use Rattle.std.specs.Prelude.{ℕ, ◌^◌, Bool, true, false, List, [], ◌∷◌, find, ◌||◌, ℤ}
use Rattle.std.specs.Prelude.{pos, neg_ℤ, unsigned_abs, Option, Some, None, is_some, codes, if◌then◌else◌, not}
use Rattle.std.specs.Str.{bytes_eq}
use Rattle.std.specs.Option.{option_map}
use Rattle.std.specs.Ordering.{int_eq}
use Rattle.comp_tree.specs.declared.shape.Connect.{Connect}
use Rattle.comp_tree.specs.declared.shape.Connect.TheVariants as connectivity
use Rattle.filter_rules.specs.declared.rule.Rule.{Rule}
use Rattle.filter_rules.specs.declared.rule.Rule.TheVariants as rule
use Rattle.orders.specs.declared.options.Command.{Command}
use Rattle.orders.specs.declared.options.Command.TheVariants.{Tree, Filter, Detect, Trial, Measure}
use Rattle.orders.specs.declared.options.Setting.{Setting}
use Rattle.orders.specs.declared.options.Setting.TheVariants.{Hdu, Connect as Connectivity, Strips, Workers, Mesh, Flat}
use Rattle.orders.specs.declared.options.Setting.TheVariants.{Rule as FilterRule, MinArea, MaxArea, MinFlux, MinFill}
use Rattle.orders.specs.declared.options.Setting.TheVariants.{Threshold, Contrast, Seed, Width, Height, Values}
use Rattle.command_line.specs.Numbers.{number_between}

-- ---- names

-- the command with this name
abbrev pub command_named : List ℕ → Option Command
command_named text =
    if bytes_eq text (codes "tree") then Some Tree
    else (if bytes_eq text (codes "filter") then Some Filter
    else (if bytes_eq text (codes "detect") then Some Detect
    else (if bytes_eq text (codes "trial") then Some Trial
    else (if bytes_eq text (codes "measure") then Some Measure else None))))

-- all options
abbrev pub settings : List Setting
settings =
    Hdu ∷ Connectivity ∷ Strips ∷ Workers ∷ Mesh ∷ Flat ∷ FilterRule ∷ MinArea ∷ MaxArea ∷ MinFlux ∷ MinFill
    ∷ Threshold ∷ Contrast ∷ Seed ∷ Width ∷ Height ∷ Values ∷ []

abbrev pub option_name : Setting → List ℕ
option_name Hdu = codes "--hdu"
option_name Connectivity = codes "--connect"
option_name Strips = codes "--strips"
option_name Workers = codes "--workers"
option_name Mesh = codes "--mesh"
option_name Flat = codes "--flat"
option_name FilterRule = codes "--rule"
option_name MinArea = codes "--min-area"
option_name MaxArea = codes "--max-area"
option_name MinFlux = codes "--min-flux"
option_name MinFill = codes "--min-fill"
option_name Threshold = codes "--threshold"
option_name Contrast = codes "--contrast"
option_name Seed = codes "--seed"
option_name Width = codes "--width"
option_name Height = codes "--height"
option_name Values = codes "--values"

unfoldable pub setting_named : List ℕ → Option Setting
setting_named text = find (λ setting. bytes_eq text (option_name setting)) settings

-- the command is one of these
abbrev pub is_filter : Command → Bool
is_filter Tree = false
is_filter Filter = true
is_filter Detect = false
is_filter Trial = false
is_filter Measure = false

abbrev pub is_detect : Command → Bool
is_detect Tree = false
is_detect Filter = false
is_detect Detect = true
is_detect Trial = false
is_detect Measure = false

abbrev pub is_trial : Command → Bool
is_trial Tree = false
is_trial Filter = false
is_trial Detect = false
is_trial Trial = true
is_trial Measure = false

abbrev pub is_measure : Command → Bool
is_measure Tree = false
is_measure Filter = false
is_measure Detect = false
is_measure Trial = false
is_measure Measure = true

-- the command picks sources, as detecting and measuring do
abbrev pub picks_sources : Command → Bool
picks_sources command = is_detect command || is_measure command

-- the command has this option
abbrev pub command_takes : Command → Setting → Bool
command_takes command Hdu = not (is_trial command)
command_takes command Connectivity = true
command_takes command Strips = true
command_takes command Workers = true
command_takes command Mesh = true
command_takes command Flat = true
command_takes command FilterRule = is_filter command
command_takes command MinArea = is_filter command || picks_sources command
command_takes command MaxArea = is_filter command
command_takes command MinFlux = is_filter command || picks_sources command
command_takes command MinFill = is_filter command
command_takes command Threshold = picks_sources command
command_takes command Contrast = picks_sources command
command_takes command Seed = is_trial command
command_takes command Width = is_trial command
command_takes command Height = is_trial command
command_takes command Values = is_measure command

abbrev pub if_taken : Command → Option Setting → Option Setting
if_taken command None = None
if_taken command (Some setting) = if command_takes command setting then Some setting else None

-- the option of the command with this name
unfoldable pub option_named : Command → List ℕ → Option Setting
option_named command text = if_taken command (setting_named text)

-- ---- values

-- a whole number from least to most, neither of them negative
abbrev pub count_between : ℤ → ℤ → List ℕ → Option ℕ
count_between least most text = option_map unsigned_abs (number_between least most text)

-- the number of an HDU, or the side of a mesh cell in pixels, where 0 is no background
unfoldable pub u16_in : List ℕ → Option ℕ
u16_in text = count_between (pos 0) (pos 65535) text

abbrev pub connect_of : Option ℤ → Option Connect
connect_of None = None
connect_of (Some n) = if int_eq n (pos 4) then Some connectivity.Four else (if int_eq n (pos 8) then Some connectivity.Eight else None)

-- 4 or 8
unfoldable pub connect_in : List ℕ → Option Connect
connect_in text = connect_of (number_between (pos 4) (pos 8) text)

-- how many strips, or the side of an image in pixels
unfoldable pub positive_u16_in : List ℕ → Option ℕ
positive_u16_in text = count_between (pos 1) (pos 65535) text

-- how many workers
unfoldable pub workers_in : List ℕ → Option ℕ
workers_in text = count_between (pos 1) (pos 64) text

abbrev pub flat_of : Option ℤ → Option Bool
flat_of None = None
flat_of (Some n) = Some (int_eq n (pos 1))

-- 0, or 1 for one number a cell
unfoldable pub flat_in : List ℕ → Option Bool
flat_in text = flat_of (number_between (pos 0) (pos 1) text)

-- a filter rule
unfoldable pub rule_in : List ℕ → Option Rule
rule_in text =
    if bytes_eq text (codes "min") then Some rule.Min
    else (if bytes_eq text (codes "max") then Some rule.Max
    else (if bytes_eq text (codes "direct") then Some rule.Direct
    else (if bytes_eq text (codes "subtractive") then Some rule.Subtractive else None)))

-- a number of pixels, of images with no more than the most
unfoldable pub area_in : (most : ℕ) → List ℕ → Option ℕ
area_in most text = count_between (pos 0) (pos most) text

-- a flux, at most 2 ^ 62
unfoldable pub flux_in : List ℕ → Option ℤ
flux_in text = number_between (pos 0) (pos (2 ^ 62)) text

-- a part of a whole, in thousandths
unfoldable pub thousandths_in : List ℕ → Option ℕ
thousandths_in text = count_between (pos 0) (pos 1000) text

-- a level, within 2 ^ 37 on either side of 0
unfoldable pub threshold_in : List ℕ → Option ℤ
threshold_in text = number_between (neg_ℤ (pos (2 ^ 37))) (pos (2 ^ 37)) text

-- a seed, which fits 32 bits
unfoldable pub seed_in : List ℕ → Option ℕ
seed_in text = count_between (pos 0) (pos 4294967295) text

-- the word is a value of this option, where images have no more pixels than the most
abbrev pub is_value : (most : ℕ) → Setting → List ℕ → Bool
is_value most Hdu text = is_some (u16_in text)
is_value most Connectivity text = is_some (connect_in text)
is_value most Strips text = is_some (positive_u16_in text)
is_value most Workers text = is_some (workers_in text)
is_value most Mesh text = is_some (u16_in text)
is_value most Flat text = is_some (flat_in text)
is_value most FilterRule text = is_some (rule_in text)
is_value most MinArea text = is_some (area_in most text)
is_value most MaxArea text = is_some (area_in most text)
is_value most MinFlux text = is_some (flux_in text)
is_value most MinFill text = is_some (thousandths_in text)
is_value most Threshold text = is_some (threshold_in text)
is_value most Contrast text = is_some (thousandths_in text)
is_value most Seed text = is_some (seed_in text)
is_value most Width text = is_some (positive_u16_in text)
is_value most Height text = is_some (positive_u16_in text)
is_value most Values text = is_some (u16_in text)
