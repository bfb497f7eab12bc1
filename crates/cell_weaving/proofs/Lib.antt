mod Weaving
