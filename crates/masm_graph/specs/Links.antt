-- Where the uses of procedures lead.
use Rattle.std.specs.Prelude.{ℕ, Bool, true, false, List, [], ◌++◌, map, Option, Some, None}
use Rattle.std.specs.List.{filter_map, flat_map}
use Rattle.masm_tree.specs.declared.tree.Proc.{Proc}
use Rattle.masm_tree.specs.Views.{body_of}
use Rattle.masm_graph.specs.declared.links.Link.{Link}
use Rattle.masm_graph.specs.declared.links.Target.{Target}
use Rattle.masm_graph.specs.declared.links.Target.TheVariants as targets
use Rattle.masm_names.specs.Uses.{Owner, Own, Kernel, Use, uses_of}

abbrev pub own_target : Option ℕ → Target
own_target (Some place) = targets.Own place
own_target None = targets.Unknown

abbrev pub kernel_target : Option ℕ → Target
kernel_target (Some place) = targets.Kernel
kernel_target None = targets.NotInKernel

-- where a name leads, by the places of the source's own names and of the kernel's
abbrev pub target_of : (own kernel : List ℕ → Option ℕ) → Owner → List ℕ → Target
target_of own kernel Own name = own_target (own name)
target_of own kernel Kernel name = kernel_target (kernel name)

abbrev pub link_of : (own kernel : List ℕ → Option ℕ) → Use → Link
link_of own kernel u = record { at = u.at; target = target_of own kernel u.kind u.name; refers = u.refers }

-- the uses in a procedure's body
abbrev pub links_in : (own kernel : List ℕ → Option ℕ) → Proc → List Link
links_in own kernel procedure = map (link_of own kernel) (uses_of (body_of procedure.body.items))

-- those between begin and end
abbrev pub main_links_in : (own kernel : List ℕ → Option ℕ) → Option Proc → List Link
main_links_in own kernel None = []
main_links_in own kernel (Some main) = links_in own kernel main

-- the place of the source's own procedure to which a use leads
abbrev pub own_place : Target → Option ℕ
own_place (targets.Own place) = Some place
own_place targets.Kernel = None
own_place targets.Unknown = None
own_place targets.NotInKernel = None

abbrev pub own_places : List Link → List ℕ
own_places row = filter_map (λ link. own_place link.target) row

-- the same where this is to be a procref, or no procref
abbrev pub place_if : (wanted refers : Bool) → Option ℕ → Option ℕ
place_if true true place = place
place_if false false place = place
place_if true false place = None
place_if false true place = None

-- the places to which the procrefs of a row lead, or those to which its other uses do
abbrev pub places_with : Bool → List Link → List ℕ
places_with wanted row = filter_map (λ link. place_if wanted link.refers (own_place link.target)) row

-- the places to which the procrefs of these rows and of the last one lead, one for each
abbrev pub places_referred : List (List Link) → List Link → List ℕ
places_referred rows main = flat_map (places_with true) rows ++ places_with true main
