-- The sets that are built in keep the laws.
use Rattle.operators.specs.Bands.{SetLaws}
use Rattle.operators.specs.Names.{NameLaws}
use Rattle.operators.specs.Builtin.{builtin, builtin_names}
use Rattle.operators.specs.Laws.{builtin_laws, builtin_spelt}
use Rattle.operators.specs.Pairs.{paired_laws, paired_spelt}
use Rattle.sets.specs.Chosen.{double, quad, double_names, quad_names}

pub double_laws : SetLaws double
double_laws = paired_laws builtin builtin builtin_laws builtin_laws

pub double_spelt : NameLaws double double_names
double_spelt = paired_spelt builtin builtin builtin_names builtin_names builtin_laws builtin_spelt builtin_spelt

pub quad_laws : SetLaws quad
quad_laws = paired_laws double double double_laws double_laws

pub quad_spelt : NameLaws quad quad_names
quad_spelt = paired_spelt double double double_names double_names double_laws double_spelt double_spelt
