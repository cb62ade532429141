mod SoleFormulas
